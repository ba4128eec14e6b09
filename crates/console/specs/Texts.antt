-- What is printed of an answer. Assumes nothing.
use Rattle.std.specs.Prelude.{ℕ, ◌-◌, List, [], ◌∷◌, ◌++◌, codes, decimal, slice_index_or}
use Rattle.terms.specs.Refusals.{Told}
use Rattle.gate.specs.declared.order.Next.{Next}
use Rattle.gate.specs.declared.order.Next.TheVariants.{Leaves, Moves}
use Rattle.gate.specs.declared.order.Order.{Order}
use Rattle.undertaking.specs.Runs.{Reply}
use Rattle.draw.specs.Places.{justified}
use Rattle.console.specs.declared.command.Verb.{Verb}
use Rattle.console.specs.declared.command.Verb.TheVariants as verb
use Rattle.console.specs.declared.usage.Usage.{Usage}
use Rattle.console.specs.declared.usage.Usage.TheVariants as usage

-- the rules in words, in the order of their numbers from 1
abbrev pub rule_words : List (List ℕ)
rule_words =
    codes "a side is out of range"
    ∷ codes "the columns or the border list are out of range"
    ∷ codes "a link is out of order or off the ground"
    ∷ codes "a column has a seventh link"
    ∷ codes "levels, robots or duration set out of range"
    ∷ codes "no whole lines, or too many"
    ∷ codes "no line of a sheet"
    ∷ codes "a field cannot be read"
    ∷ codes "a goal out of order or out of range"
    ∷ codes "no end line, not the last, or a wrong count"
    ∷ codes "outside, letter and block do not go together"
    ∷ codes "a column or a height is off the site"
    ∷ codes "no link, or no border, or a border"
    ∷ codes "the end is not start and duration"
    ∷ codes "the start is below that of the action before"
    ∷ codes "a robot above is not carried on"
    ∷ codes "a height is not the one written, or does not fit"
    ∷ codes "a column is shared at one time"
    ∷ codes "the robot comes from nowhere"
    ∷ codes "too many robots at once"
    ∷ codes "a robot is left on the site"
    ∷ codes "a height is not the target"
    ∷ codes "no such column"
    ∷ codes "no robot stands there"
    ∷ codes "a lay without a block, or a lift with one"
    ∷ codes "no link, or a border where there must be none, or none where there must be one"
    ∷ codes "the column is held"
    ∷ codes "the heights do not fit"
    ∷ codes "as many robots as there may be"
    ∷ codes "a robot would have no way home"
    ∷ codes "an action runs"
    ∷ codes "no robot"
    ∷ codes "the site is not fresh"
    ∷ codes "the buffer is too short"
    ∷ []

abbrev pub words_at : ℕ → List ℕ
words_at n = slice_index_or rule_words (n - 1) []

abbrev pub refusal_text : Told → List ℕ
refusal_text t =
    codes "refused " ++ (decimal t.number ++ (codes ", line " ++ (decimal t.line ++ (codes ", detail " ++ (decimal t.detail ++ (codes ": " ++ words_at t.number))))))

abbrev pub next_text : Next → List ℕ
next_text Leaves = codes " leaves"
next_text (Moves d) = codes " moves to " ++ decimal d

abbrev pub order_text : Order → List ℕ
order_text o = codes "robot at " ++ (decimal o.column ++ (next_text o.next ++ (codes ", " ++ (decimal o.left ++ codes " left"))))

abbrev pub reply_text : Reply → List ℕ
reply_text Reply.granted = codes "granted"
reply_text (Reply.refused t) = refusal_text t
reply_text (Reply.named o) = order_text o

-- how a line that begins with a word is written
abbrev pub form_text : Verb → List ℕ
form_text verb.Enter = codes "enter COLUMN or enter COLUMN block"
form_text verb.Move = codes "move FROM TO"
form_text verb.Lay = codes "lay FROM TO"
form_text verb.Lift = codes "lift FROM TO"
form_text verb.Leave = codes "leave COLUMN"
form_text verb.Tick = codes "tick or tick TIMES, 1 to 999999"
form_text verb.Recall = codes "recall"
form_text verb.Clear = codes "clear"
form_text verb.Look = codes "look"
form_text verb.Play = codes "play"

abbrev pub usage_text : Usage → List ℕ
usage_text usage.Open = codes "open square X Y LEVELS ROBOTS SET or open listed COLUMNS LEVELS ROBOTS SET BORDER LINK .."
usage_text usage.Other = codes "enter, move, lay, lift, leave, tick, recall, clear, look or play"
usage_text (usage.Form v) = form_text v
usage_text usage.FewerSheets = codes "at most 16 sheets in a script"

abbrev pub expected_text : Usage → List ℕ
expected_text u = codes "expected " ++ usage_text u

-- an answer behind the number of its line, six wide
abbrev pub labelled : ℕ → List ℕ → List ℕ
labelled line text = justified 6 line ++ (32 ∷ (32 ∷ (text ++ 10 ∷ [])))
