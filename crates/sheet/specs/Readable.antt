-- What a line can be read as, and which of its fields cannot be read, in words. Assumes nothing.
use Rattle.std.specs.Prelude.{◌≡◌, ℕ, suc, ◌^◌, ◌<◌, Bool, false, ◌↔◌, ◌⊎◌, List, [], ◌∷◌, length, take, replicate, Some, decimal}
use Rattle.sheet.specs.declared.record.Letter.{Letter}
use Rattle.sheet.specs.declared.record.Place.{Place}
use Rattle.sheet.specs.declared.record.Record.{Record}
use Rattle.sheet.specs.Lines.{Word, bad_field, bad_shape, fields, record_in, word, word_in}
use Rattle.sheet.specs.Records.{part}
use Rattle.sheet.specs.Written.{Narrow, Written, carry_text, letter_text, place_text, right, word_text}

-- a field of w bytes shows a number, or a place with a mark for outside; one of two bytes a carry, or a letter
abbrev pub ShowsNumber : ℕ → List ℕ → Type 0
ShowsNumber w bs = (n : ℕ) × (n < 10 ^ w) × (bs ≡ right w (decimal n))

abbrev pub ShowsPlace : ℕ → ℕ → List ℕ → Type 0
ShowsPlace mark w bs = (p : Place) × Narrow w p × (bs ≡ right w (place_text mark p))

abbrev pub ShowsCarry : List ℕ → Type 0
ShowsCarry bs = (b : Bool) × (bs ≡ right 2 (carry_text b))

abbrev pub ShowsLetter : List ℕ → Type 0
ShowsLetter bs = (x : Letter) × (bs ≡ right 2 (letter_text x))

abbrev pub Blank : List ℕ → Type 0
Blank bs = bs ≡ replicate (length bs) 32

-- what each field of a line shows, one after another, in the thirty bytes behind its word
abbrev pub fields_show : Word → List ℕ → List (Type 0)
fields_show Word.goal fs = ShowsNumber 6 (part 0 6 fs) ∷ ShowsNumber 6 (part 6 6 fs) ∷ []
fields_show Word.act fs =
    ShowsNumber 6 (part 0 6 fs)
    ∷ ShowsNumber 6 (part 6 6 fs)
    ∷ ShowsPlace 83 4 (part 12 4 fs)
    ∷ ShowsPlace 83 3 (part 16 3 fs)
    ∷ ShowsCarry (part 19 2 fs)
    ∷ ShowsLetter (part 21 2 fs)
    ∷ ShowsPlace 69 4 (part 23 4 fs)
    ∷ ShowsPlace 69 3 (part 27 3 fs)
    ∷ []
fields_show Word.note fs = []
fields_show Word.end fs = ShowsNumber 6 (part 0 6 fs) ∷ []

-- and what stands behind them
abbrev pub RestShows : Word → List ℕ → Type 0
RestShows Word.goal fs = Blank (part 12 18 fs)
RestShows Word.act fs = Unit {0}
RestShows Word.note fs = Unit {0}
RestShows Word.end fs = Blank (part 6 24 fs)

-- of things to be shown, counted from i, number k is the first that is not; 0 stands for the rest, where all others are
abbrev pub FirstUnread : ℕ → List (Type 0) → Type 0 → ℕ → Type 0
FirstUnread i [] Rest k = (Rest → ⊥) × (k ≡ 0)
FirstUnread i (P ∷ Ps) Rest k = ((P → ⊥) × (k ≡ i)) ⊎ (P × FirstUnread (suc i) Ps Rest k)

pub record ReadsAsWritten : Type 0 where
  -- a line has a word exactly where it begins with its four bytes
  pub words : (l : List ℕ) → length l ≡ 35 → (w : Word) → (word l ≡ Some w) ↔ (take 4 l ≡ word_text w)
  -- it is read as a record exactly where it is that record written out
  pub read : (n : ℕ) (l : List ℕ) → length l ≡ 35 → (r : Record) → bad_shape l ≡ false → record_in n l ≡ Some r → Written n l r
  pub written : (n : ℕ) (l : List ℕ) (r : Record) → Written n l r → (bad_shape l ≡ false) × (record_in n l ≡ Some r)
  -- and the field that is told is the first that shows nothing
  pub unread : (n : ℕ) (l : List ℕ) → length l ≡ 35 → (w : Word) → word_in l ≡ Some w → (k : ℕ)
      → (bad_field n l ≡ Some k) ↔ FirstUnread 1 (fields_show w (fields l)) (RestShows w (fields l)) k
