-- A corridor obeys what every ground obeys, and what its neighbours are. Assumes nothing.
use Rattle.std.specs.Prelude.{◌≡◌, ℕ, ◌+◌, ◌-◌, ◌<◌, ◌≤◌, true, cond, List, [], length, nat_lt}
use Rattle.std.proofs.Common.{arith}
use Rattle.std.proofs.lemmas.Bool.Decides.{nat_tests}
use Rattle.ground.specs.Meaning.{Lawful, neighbours}
use Rattle.ground.specs.Members.{has, onto}
use Rattle.ground.specs.Rises.{Rising, kept_rising}
use Rattle.ground.specs.Sides.{where_so}
use Rattle.corridor.specs.Row.{in_a_row}

pub row_lawful : (n : ℕ) → 1 ≤ n → n ≤ 256 → Lawful (in_a_row n)
row_lawful n low high = record {
  some = low;
  few = high;
  at_border = λ c h. grind (arith, nat_tests);
  within = λ c d h. grind (arith, nat_tests);
  both_ways = λ c d h. grind (arith, nat_tests);
  no_loop = λ c. grind (arith, nat_tests);
}

-- the columns beside a column, in rising order
abbrev pub beside : ℕ → ℕ → List ℕ
beside n c = cond (nat_lt c n) (onto (where_so (nat_lt 0 c) (c - 1)) (onto (where_so (nat_lt (c + 1) n) (c + 1)) [])) []

-- they do rise, are at most two, and are just the linked columns
rises : (n c : ℕ) → Rising 0 (beside n c)
rises n c = grind (arith, nat_tests)

few : (n c : ℕ) → length (beside n c) ≤ 2
few n c = grind (arith, nat_tests)

same : (n c d : ℕ) → (in_a_row n).linked c d ≡ has d (beside n c)
same n c d = grind (arith, nat_tests)

within : (n c d : ℕ) → (in_a_row n).linked c d ≡ true → d < n
within n c d h = grind (arith, nat_tests)

pub row_neighbours : (n c : ℕ) → neighbours (in_a_row n) c ≡ beside n c
row_neighbours n c = kept_rising ((in_a_row n).linked c) n (within n c) (beside n c) (rises n c) (same n c)

pub row_few : (n c : ℕ) → length (neighbours (in_a_row n) c) ≤ 2
row_few n c = rw row_neighbours (few n c)
