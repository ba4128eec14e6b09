-- How the lines of a sheet are written, byte by byte. Assumes nothing.
use Rattle.std.specs.Prelude.{◌≡◌, ℕ, ◌-◌, ◌^◌, ◌<◌, Bool, true, false, List, [], ◌∷◌, ◌++◌, length, replicate, codes, decimal}
use Rattle.sheet.specs.declared.record.ActLine.{ActLine}
use Rattle.sheet.specs.declared.record.Letter.{Letter}
use Rattle.sheet.specs.declared.record.Letter.TheVariants.{M, P, D}
use Rattle.sheet.specs.declared.record.Place.{Place}
use Rattle.sheet.specs.declared.record.Place.TheVariants.{Outside, At}
use Rattle.sheet.specs.declared.record.Record.{Record}
use Rattle.sheet.specs.declared.record.Record.TheVariants.{Goal, Act, Note, End}
use Rattle.sheet.specs.Lines.{Word}
use Rattle.sheet.specs.Reasons.{Printable}

-- the four words
abbrev pub word_text : Word → List ℕ
word_text Word.goal = codes "GOAL"
word_text Word.act = codes "ACT "
word_text Word.note = codes "NOTE"
word_text Word.end = codes "END "

-- a text to the right of a field of w bytes
abbrev pub right : ℕ → List ℕ → List ℕ
right w text = replicate (w - length text) 32 ++ text

abbrev pub place_text : ℕ → Place → List ℕ
place_text mark Outside = mark ∷ []
place_text mark (At n) = decimal n

abbrev pub letter_text : Letter → List ℕ
letter_text M = codes "M"
letter_text P = codes "P"
letter_text D = codes "D"

abbrev pub carry_text : Bool → List ℕ
carry_text false = codes "0"
carry_text true = codes "1"

-- a place has at most so many digits
abbrev pub Narrow : ℕ → Place → Type 0
Narrow w Outside = Unit {0}
Narrow w (At n) = n < 10 ^ w

-- the numbers of an ACT line have no more digits than their fields
pub record FitsLine (a : ActLine) : Type 0 where
  pub start : a.start < 10 ^ 6
  pub end : a.end < 10 ^ 6
  pub from_column : Narrow 4 a.from.column
  pub from_height : Narrow 3 a.from.height
  pub to_column : Narrow 4 a.to.column
  pub to_height : Narrow 3 a.to.height

-- line number n is written so that it shows a record
pub data Written (n : ℕ) (l : List ℕ) : Record → Type 0 where
  goal : (c h : ℕ) → c < 10 ^ 6 → h < 10 ^ 6
      → l ≡ codes "GOAL" ++ (right 6 (decimal c) ++ (right 6 (decimal h) ++ (replicate 18 32 ++ (10 ∷ [])))) → Written n l (Goal c h)
  act : (a : ActLine) → a.line ≡ n → FitsLine a
      → l ≡ codes "ACT " ++ (right 6 (decimal a.start) ++ (right 6 (decimal a.end) ++ (right 4 (place_text 83 a.from.column) ++ (right 3 (place_text 83 a.from.height)
      ++ (right 2 (carry_text a.carry) ++ (right 2 (letter_text a.letter) ++ (right 4 (place_text 69 a.to.column) ++ (right 3 (place_text 69 a.to.height) ++ (10 ∷ [])))))))))
      → Written n l (Act a)
  note : (text : List ℕ) → length text ≡ 30 → Printable text → l ≡ codes "NOTE" ++ (text ++ (10 ∷ [])) → Written n l Note
  end : (k : ℕ) → k < 10 ^ 6 → l ≡ codes "END " ++ (right 6 (decimal k) ++ (replicate 24 32 ++ (10 ∷ []))) → Written n l (End k)
