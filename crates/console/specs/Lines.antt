-- A script's lines, their words, and the sheets below them. Assumes nothing.
use Rattle.std.specs.Prelude.{ℕ, zero, suc, Bool, true, false, cond, List, [], ◌∷◌, eqb, take, codes, ◌==◌}
use Rattle.std.specs.Char.{is_ascii_whitespace}
use Rattle.std.specs.List.{concat, filter, onto_first, slice_split, starts_with}
use Rattle.std.specs.Str.{bytes_eq}

abbrev pub has_bytes : List ℕ → Bool
has_bytes [] = false
has_bytes (b ∷ bs) = true

-- words have white space between them, and none in them
abbrev pub words : List ℕ → List (List ℕ)
words l = filter has_bytes (slice_split is_ascii_whitespace l)

-- a line that is a remark says nothing
abbrev pub is_remark : List ℕ → Bool
is_remark [] = false
is_remark (b ∷ bs) = b == 35

abbrev pub said : List ℕ → List (List ℕ)
said l = cond (is_remark l) [] (words l)

-- the lines of a text, each with its newline; the last may have none
abbrev pub lines : List ℕ → List (List ℕ)
lines [] = []
lines (b ∷ bs) = cond (b == 10) ((b ∷ []) ∷ lines bs) (onto_first b (lines bs))

-- a line that is answered, and the sheet below it
pub record Entry : Type 0 where
  pub line : ℕ
  pub words : List (List ℕ)
  pub sheet : List ℕ

abbrev pub is_play : List (List ℕ) → Bool
is_play [] = false
is_play (w ∷ ws) = bytes_eq w (codes "play")

-- how many lines a sheet has, up to and with the first that begins with END and a space
abbrev pub sheet_lines : List (List ℕ) → ℕ
sheet_lines [] = 0
sheet_lines (l ∷ ls) = cond (starts_with eqb l (codes "END ")) 1 (suc (sheet_lines ls))

-- how many of the lines below a line with these words are its sheet
abbrev pub below : List (List ℕ) → List (List ℕ) → ℕ
below ws ls = cond (is_play ws) (sheet_lines ls) 0

-- the lines that are answered, numbered from k, where the first `skip` are a sheet's
abbrev pub entries : ℕ → ℕ → List (List ℕ) → List Entry
entries k skip [] = []
entries k zero (l ∷ ls) =
    record { line = k; words = said l; sheet = concat (take (below (said l) ls) ls) } ∷ entries (suc k) (below (said l) ls) ls
entries k (suc skip) (l ∷ ls) = entries (suc k) skip ls

-- the lines of a script
abbrev pub entries_in : List ℕ → List Entry
entries_in script = entries 1 0 (lines script)
