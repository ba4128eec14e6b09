-- The drawing of heights: sixteen to a row, three places each, a newline after each row. Assumes nothing.
use Rattle.std.specs.Prelude.{◌≡◌, ℕ, zero, suc, ◌+◌, ◌-◌, ◌*◌, ◌/◌, ◌%◌, ◌<◌, cond, ◌⊎◌, List, [], ◌∷◌, ◌++◌, length, take, drop, Ok, Err, Option, Result, decimal, nat_le, nat_lt, replicate, slice_index}
use Rattle.std.specs.List.{flat_map}
use Rattle.terms.specs.Refusals.{Told, first_of, told}
use Rattle.terms.specs.declared.refusal.Refusal.{Refusal}
use Rattle.terms.specs.declared.refusal.Rule.TheVariants.{BufferShort}

-- a height in three places, justified to the right
abbrev pub cell : ℕ → List ℕ
cell n = (cond (nat_le 100 n) (48 + n / 100) 32) ∷ ((cond (nat_le 10 n) (48 + n / 10 % 10) 32) ∷ ((48 + n % 10) ∷ []))

-- a row: its heights, and a newline
abbrev pub row_text : List ℕ → List ℕ
row_text hs = flat_map cell hs ++ (10 ∷ [])

-- rows of sixteen, k at most
abbrev pub rows_by : ℕ → List ℕ → List ℕ
rows_by zero hs = []
rows_by (suc k) [] = []
rows_by (suc k) (h ∷ hs) = row_text (take 16 (h ∷ hs)) ++ rows_by k (drop 16 (h ∷ hs))

-- the drawing of all heights
unfoldable pub text : List ℕ → List ℕ
text hs = rows_by (length hs) hs

-- the bytes bs draw heights, place by place: each in decimal, to the right of three places, and a newline behind each sixteenth and
-- behind the last
pub record Draws (hs bs : List ℕ) : Type 0 where
  pub size : length bs ≡ 3 * length hs + (length hs + 15) / 16
  pub places : (i : ℕ) → i < length hs
      → take 3 (drop (3 * i + i / 16) bs) ≡ replicate (3 - length (decimal (slice_index hs i))) 32 ++ decimal (slice_index hs i)
  pub row_end : (i : ℕ) → i < length hs → (i % 16 ≡ 15) ⊎ (suc i ≡ length hs) → slice_index bs (3 * i + i / 16 + 3) ≡ 10

-- the buffer is shorter than the drawing
abbrev pub draw_refusal : List ℕ → List ℕ → Option Told
draw_refusal hs buffer = first_of ((nat_lt (length buffer) (length (text hs)), told BufferShort 0 0) ∷ [])

-- what is in the buffer then: the drawing and the old bytes behind it, or all as it was
abbrev pub buffered : List ℕ → List ℕ → Result ℕ Refusal → List ℕ
buffered hs buffer (Ok n) = text hs ++ drop (length (text hs)) buffer
buffered hs buffer (Err f) = buffer
