-- A line of 35 bytes: its word, what it shows, and whether it is well formed. Assumes nothing.
use Rattle.std.specs.Prelude.{ℕ, Bool, true, false, cond, not, ◌&&◌, List, Some, None, Ok, Option, Result, ◌==◌, nat_le, option_and_then, slice_index}
use Rattle.std.specs.List.{list_all}
use Rattle.std.specs.Result.{result_ok, result_err}
use Rattle.sheet.specs.declared.record.Record.{Record}
use Rattle.sheet.specs.declared.record.Record.TheVariants.{Note}
use Rattle.sheet.specs.Records.{part, goal_in, act_in, end_in}

-- the four kinds of line
pub data Word : Type 0 where
  goal act note end : Word

-- whether the first four bytes of a list are these
abbrev pub spelt : List ℕ → ℕ → ℕ → ℕ → ℕ → Bool
spelt l w x y z = slice_index l 0 == w && (slice_index l 1 == x && (slice_index l 2 == y && slice_index l 3 == z))

-- the word that a list begins with: GOAL, ACT, NOTE or END
abbrev pub word : List ℕ → Option Word
word l =
    cond (spelt l 71 79 65 76) (Some Word.goal)
    (cond (spelt l 65 67 84 32) (Some Word.act)
    (cond (spelt l 78 79 84 69) (Some Word.note)
    (cond (spelt l 69 78 68 32) (Some Word.end) None)))

-- the word of a line that ends with a newline
abbrev pub word_in : List ℕ → Option Word
word_in l = cond (slice_index l 34 == 10) (word l) None

-- the thirty bytes behind the word
abbrev pub fields : List ℕ → List ℕ
fields l = part 4 30 l

abbrev pub plain_byte : ℕ → Bool
plain_byte b = nat_le 32 b && nat_le b 126

abbrev pub printable : List ℕ → Bool
printable bs = list_all plain_byte bs

-- a line with no word, or a note with a byte that cannot be printed
abbrev pub misshapen : Option Word → List ℕ → Bool
misshapen None fs = true
misshapen (Some Word.goal) fs = false
misshapen (Some Word.act) fs = false
misshapen (Some Word.note) fs = not (printable fs)
misshapen (Some Word.end) fs = false

-- what a line shows, or the number of its first field that cannot be read; line is its number
abbrev pub shown : ℕ → Option Word → List ℕ → Option (Result Record ℕ)
shown line None fs = None
shown line (Some Word.goal) fs = Some (goal_in fs)
shown line (Some Word.act) fs = Some (act_in line fs)
shown line (Some Word.note) fs = Some (Ok Note)
shown line (Some Word.end) fs = Some (end_in fs)

abbrev pub unread : Option (Result Record ℕ) → Option ℕ
unread o = option_and_then result_err o

abbrev pub read : Option (Result Record ℕ) → Option Record
read o = option_and_then result_ok o

abbrev pub bad_shape : List ℕ → Bool
bad_shape l = misshapen (word_in l) (fields l)

abbrev pub bad_field : ℕ → List ℕ → Option ℕ
bad_field line l = unread (shown line (word_in l) (fields l))

abbrev pub record_in : ℕ → List ℕ → Option Record
record_in line l = read (shown line (word_in l) (fields l))
