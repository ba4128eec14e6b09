-- What a table of rows means, one row for each column. Assumes nothing.
use Rattle.std.specs.Prelude.{◌≡◌, ℕ, ◌<◌, false, cond, ◌&&◌, List, [], ◌∷◌, length, get_or, Option, Some, None, ◌==◌, nat_lt, slice_index, slice_index_or}
use Rattle.ground.specs.Listing.{Link}
use Rattle.ground.specs.Meaning.{Meaning}
use Rattle.ground.specs.Members.{has, somes}
use Rattle.ground.specs.declared.row.Row.{Row}

-- what is read past the last row
abbrev pub no_row : Row
no_row = record { border = false; to = [] }

-- the links of a row, in its order
abbrev pub entries : Row → List ℕ
entries r = somes r.to

-- places with one more of them filled, the first that is empty
abbrev pub fill : ℕ → List (Option ℕ) → List (Option ℕ)
fill d [] = []
fill d (Some x ∷ os) = Some x ∷ fill d os
fill d (None ∷ os) = Some d ∷ os

-- no place is filled behind an empty one
abbrev pub Packed : List (Option ℕ) → Type 0
Packed [] = Unit {0}
Packed (Some x ∷ os) = Packed os
Packed (None ∷ os) = somes os ≡ []

-- a row with one more link
abbrev pub with_link : Row → ℕ → Row
with_link r d = record { border = r.border; to = fill d r.to }

-- the columns linked with a column, none past the last column
abbrev pub in_row : ℕ → List Row → ℕ → List ℕ
in_row columns rows c = cond (nat_lt c columns) (entries (slice_index_or rows c no_row)) []

abbrev pub tabled : ℕ → List Row → Meaning
tabled columns rows = record {
  columns = columns;
  border = λ c. nat_lt c columns && (get_or rows c no_row).border;
  linked = λ c d. has d (in_row columns rows c);
}

-- the other column of a link of column c, if it is one
abbrev pub other : ℕ → Link → List ℕ
other c k = cond (k.1 == c) (k.0 ∷ []) (cond (k.0 == c) (k.1 ∷ []) [])

-- rows that keep a border list, and for each column the links that f gives
pub record Filled (border : List ℕ) (f : ℕ → List ℕ) (rows : List Row) : Type 0 where
  pub long : length rows ≡ 256
  pub wide : (c : ℕ) → c < 256 → length (get_or rows c no_row).to ≡ 6
  pub packed : (c : ℕ) → Packed (get_or rows c no_row).to
  pub bordered : (c : ℕ) → (get_or rows c no_row).border ≡ (slice_index border c == 1)
  pub keeps : (c : ℕ) → c < 256 → entries (slice_index_or rows c no_row) ≡ f c
