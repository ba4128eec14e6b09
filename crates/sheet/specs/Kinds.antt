-- The lines of the code: their word, their fields and their number, and what of one cannot be read. Assumes nothing.
use Rattle.std.specs.Prelude.{ℕ, Bool, List, [], ◌∷◌, Ok, Err, Result, is_some}
use Rattle.std.specs.Option.{unwrap_or}
use Rattle.terms.specs.Refusals.{Told, told}
use Rattle.terms.specs.declared.refusal.Rule.TheVariants.{LineShape, FieldUnreadable}
use Rattle.sheet.specs.Lines.{Word, bad_shape, bad_field}
use Rattle.sheet.specs.declared.line.Line.{Line}
use Rattle.sheet.specs.declared.line.Line.TheVariants.{Goal, Act, Note, End}
use Rattle.sheet.specs.declared.record.Record.{Record}
use Rattle.sheet.specs.declared.unread.Unread.{Unread}
use Rattle.sheet.specs.declared.unread.Unread.TheVariants.{Field, Rest}

abbrev pub word_of : Line → Word
word_of (Goal n fs) = Word.goal
word_of (Act n fs) = Word.act
word_of (Note n fs) = Word.note
word_of (End n fs) = Word.end

abbrev pub fields_of : Line → List ℕ
fields_of (Goal n fs) = fs.now
fields_of (Act n fs) = fs.now
fields_of (Note n fs) = fs.now
fields_of (End n fs) = fs.now

abbrev pub place_of : Line → ℕ
place_of (Goal n fs) = n
place_of (Act n fs) = n
place_of (Note n fs) = n
place_of (End n fs) = n

-- the number of what cannot be read: 0 for the rest that is not blank
abbrev pub detail_of : Unread → ℕ
detail_of (Field n) = n
detail_of Rest = 0

-- what was read, or the number of what cannot be
abbrev pub answer_of : Result Record Unread → Result Record ℕ
answer_of (Ok r) = Ok r
answer_of (Err u) = Err (detail_of u)

-- what refuses a line by itself, in the order of precedence
abbrev pub line_tests : ℕ → List ℕ → List (Bool × Told)
line_tests n l =
    (bad_shape l, told LineShape n 0)
    ∷ (is_some (bad_field n l), told FieldUnreadable n (unwrap_or (bad_field n l) 0))
    ∷ []
