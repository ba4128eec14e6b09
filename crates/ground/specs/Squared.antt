-- The square ground of x by y columns: column y * i + j is at (i, j). Assumes nothing.
use Rattle.std.specs.Prelude.{◌≡◌, ℕ, ◌+◌, ◌*◌, ◌/◌, ◌%◌, ◌<◌, ◌≤◌, Bool, not, ◌&&◌, ◌||◌, ◌⊎◌, List, [], ◌∷◌, Option, Decides, ◌==◌, nat_le, nat_lt}
use Rattle.terms.specs.declared.refusal.Rule.TheVariants.{SquareSize}
use Rattle.terms.specs.Refusals.{Reason, Told, first_of, told}
use Rattle.ground.specs.Meaning.{Meaning}

-- two coordinates that differ by one
abbrev pub beside : ℕ → ℕ → Bool
beside a b = a + 1 == b || b + 1 == a

-- two places that differ by one in just one coordinate
abbrev pub near : ℕ → ℕ → ℕ → ℕ → Bool
near i j k l = (i == k && beside j l) || (j == l && beside i k)

-- a place in the first or the last row or column
abbrev pub on_rim : ℕ → ℕ → ℕ → ℕ → Bool
on_rim x y i j = (i == 0 || i + 1 == x) || (j == 0 || j + 1 == y)

abbrev pub squared : ℕ → ℕ → Meaning
squared x y = record {
  columns = x * y;
  border = λ c. nat_lt c (x * y) && on_rim x y (c / y) (c % y);
  linked = λ c d. nat_lt c (x * y) && (nat_lt d (x * y) && near (c / y) (c % y) (d / y) (d % y));
}

-- the same in words: two places that differ by one in just one coordinate
abbrev pub Near : ℕ → ℕ → ℕ → ℕ → Type 0
Near i j k l = ((i ≡ k) × ((j + 1 ≡ l) ⊎ (l + 1 ≡ j))) ⊎ ((j ≡ l) × ((i + 1 ≡ k) ⊎ (k + 1 ≡ i)))

-- a place in the first or the last row or column
abbrev pub OnRim : ℕ → ℕ → ℕ → ℕ → Type 0
OnRim x y i j = ((i ≡ 0) ⊎ (i + 1 ≡ x)) ⊎ ((j ≡ 0) ⊎ (j + 1 ≡ y))

-- a meaning that is the square ground of x by y columns, told place by place
pub record IsSquare (x y : ℕ) (m : Meaning) : Type 0 where
  pub columns : m.columns ≡ x * y
  pub border : (i j : ℕ) → i < x → j < y → Decides (m.border (y * i + j)) (OnRim x y i j)
  pub linked : (i j k l : ℕ) → i < x → j < y → k < x → l < y → Decides (m.linked (y * i + j) (y * k + l)) (Near i j k l)

-- each side is 1 to 16 columns long
abbrev pub square_refusal : ℕ → ℕ → Option Told
square_refusal x y =
    first_of ((not ((nat_le 1 x && nat_le x 16) && (nat_le 1 y && nat_le y 16)), told SquareSize 0 0) ∷ [])

pub record Sized (x y : ℕ) : Type 0 where
  pub x_low : 1 ≤ x
  pub x_high : x ≤ 16
  pub y_low : 1 ≤ y
  pub y_high : y ≤ 16

abbrev pub square_reasons : ℕ → ℕ → List Reason
square_reasons x y = record { holds = Sized x y → ⊥; tells = told SquareSize 0 0 } ∷ []
