-- What the words of a line ask of an open site, or what was expected. Assumes nothing.
use Rattle.std.specs.Prelude.{ℕ, Bool, true, false, cond, ◌&&◌, List, [], ◌∷◌, Some, None, Ok, Err, codes, Option, Result, nat_le, option_and_then}
use Rattle.std.specs.Option.{option_map}
use Rattle.std.specs.Str.{bytes_eq}
use Rattle.gate.specs.declared.call.Call.{Call}
use Rattle.gate.specs.declared.call.Call.TheVariants.{Enter, Move, Lay, Lift, Leave, Recall}
use Rattle.sheet.specs.Fields.{number_in}
use Rattle.console.specs.declared.command.Command.{Command}
use Rattle.console.specs.declared.command.Command.TheVariants.{Makes, Ticks, Clear, Look, Play}
use Rattle.console.specs.declared.command.Verb.{Verb}
use Rattle.console.specs.declared.command.Verb.TheVariants as verb
use Rattle.console.specs.declared.usage.Usage.{Usage}
use Rattle.console.specs.declared.usage.Usage.TheVariants as usage

-- the first of some words, and those behind it
abbrev pub first_word : List (List ℕ) → Option (List ℕ)
first_word [] = None
first_word (w ∷ ws) = Some w

abbrev pub behind : List (List ℕ) → List (List ℕ)
behind [] = []
behind (w ∷ ws) = ws

-- x, where no word is left
abbrev pub at_end : {X : Type 0} → List (List ℕ) → X → Option X
at_end [] x = Some x
at_end (w ∷ ws) x = None

-- a number below an end
abbrev pub few : ℕ → ℕ → Option ℕ
few most n = cond (nat_le n most) (Some n) None

-- a column number that fits
abbrev pub column_in : List ℕ → Option ℕ
column_in w = option_and_then (few 65535) (number_in w)

-- the number, or the column number, that the first word is
abbrev pub first_number : List (List ℕ) → Option ℕ
first_number ws = option_and_then number_in (first_word ws)

abbrev pub first_column : List (List ℕ) → Option ℕ
first_column ws = option_and_then column_in (first_word ws)

-- a number, or a column number, and what follows it
abbrev pub with_number : {X : Type 0} → List (List ℕ) → (ℕ → List (List ℕ) → Option X) → Option X
with_number ws f = option_and_then (λ n. f n (behind ws)) (first_number ws)

abbrev pub with_column : {X : Type 0} → List (List ℕ) → (ℕ → List (List ℕ) → Option X) → Option X
with_column ws f = option_and_then (λ n. f n (behind ws)) (first_column ws)

-- one column, and two
abbrev pub one_column : List (List ℕ) → Option ℕ
one_column ws = with_column ws (λ c ws. at_end ws c)

abbrev pub two_columns : List (List ℕ) → Option (ℕ × ℕ)
two_columns ws = with_column ws (λ c ws. with_column ws (λ d ws. at_end ws (c, d)))

-- whether a block is brought in, by the words behind the column
abbrev pub block_in : List (List ℕ) → Option Bool
block_in [] = Some false
block_in (w ∷ ws) = cond (bytes_eq w (codes "block")) (at_end ws true) None

abbrev pub enter_in : List (List ℕ) → Option Call
enter_in ws = with_column ws (λ c ws. option_map (Enter c) (block_in ws))

-- how many ticks: one, or the number that is given, from 1 to 999,999
abbrev pub times : ℕ → Option ℕ
times n = cond (nat_le 1 n && nat_le n 999999) (Some n) None

abbrev pub times_in : List (List ℕ) → Option ℕ
times_in [] = Some 1
times_in (w ∷ ws) = option_and_then (λ n. at_end ws n) (option_and_then times (number_in w))

-- what a first word is
abbrev pub verb_in : List ℕ → Option Verb
verb_in w =
    cond (bytes_eq w (codes "enter")) (Some verb.Enter)
    (cond (bytes_eq w (codes "move")) (Some verb.Move)
    (cond (bytes_eq w (codes "lay")) (Some verb.Lay)
    (cond (bytes_eq w (codes "lift")) (Some verb.Lift)
    (cond (bytes_eq w (codes "leave")) (Some verb.Leave)
    (cond (bytes_eq w (codes "tick")) (Some verb.Tick)
    (cond (bytes_eq w (codes "recall")) (Some verb.Recall)
    (cond (bytes_eq w (codes "clear")) (Some verb.Clear)
    (cond (bytes_eq w (codes "look")) (Some verb.Look)
    (cond (bytes_eq w (codes "play")) (Some verb.Play) None)))))))))

-- what the words behind it ask then, if they are well formed
abbrev pub asked : Verb → List (List ℕ) → Option Command
asked verb.Enter ws = option_map Makes (enter_in ws)
asked verb.Move ws = option_map (λ p. Makes (Move p.0 p.1)) (two_columns ws)
asked verb.Lay ws = option_map (λ p. Makes (Lay p.0 p.1)) (two_columns ws)
asked verb.Lift ws = option_map (λ p. Makes (Lift p.0 p.1)) (two_columns ws)
asked verb.Leave ws = option_map (λ c. Makes (Leave c)) (one_column ws)
asked verb.Tick ws = option_map Ticks (times_in ws)
asked verb.Recall ws = at_end ws (Makes Recall)
asked verb.Clear ws = at_end ws Clear
asked verb.Look ws = at_end ws Look
asked verb.Play ws = at_end ws Play

abbrev pub or_expects : {X : Type 0} → Usage → Option X → Result X Usage
or_expects u None = Err u
or_expects u (Some x) = Ok x

abbrev pub command_of : Option Verb → List (List ℕ) → Result Command Usage
command_of None ws = Err usage.Other
command_of (Some v) ws = or_expects (usage.Form v) (asked v ws)

abbrev pub command_in : List (List ℕ) → Result Command Usage
command_in ws = command_of (option_and_then verb_in (first_word ws)) (behind ws)
