-- The corridor of n columns: they stand in a row, each linked with the next, and the two ends are border. Assumes nothing.
use Rattle.std.specs.Prelude.{ℕ, ◌+◌, ◌≤◌, not, ◌&&◌, ◌||◌, List, [], ◌∷◌, Option, ◌==◌, nat_le, nat_lt}
use Rattle.terms.specs.declared.refusal.Rule.TheVariants.{BorderList}
use Rattle.terms.specs.Refusals.{Reason, Told, first_of, told}
use Rattle.ground.specs.Meaning.{Meaning}

abbrev pub in_a_row : ℕ → Meaning
in_a_row n = record {
  columns = n;
  border = λ c. nat_lt c n && (c == 0 || c + 1 == n);
  linked = λ c d. nat_lt c n && (nat_lt d n && (c + 1 == d || d + 1 == c));
}

-- there are 1 to 256 columns
abbrev pub row_refusal : ℕ → Option Told
row_refusal n = first_of ((not (nat_le 1 n && nat_le n 256), told BorderList 0 0) ∷ [])

pub record IsLength (n : ℕ) : Type 0 where
  pub low : 1 ≤ n
  pub high : n ≤ 256

abbrev pub row_reasons : ℕ → List Reason
row_reasons n = record { holds = IsLength n → ⊥; tells = told BorderList 0 0 } ∷ []
