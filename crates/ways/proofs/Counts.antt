-- How many numbers below n pass a test. Assumes nothing.
use Rattle.std.proofs.Common.{◌≡◌, ℕ, zero, suc, ◌+◌, ◌<◌, ◌≤◌, Bool, true, false, arith}

abbrev pub one_if : Bool → ℕ
one_if true = 1
one_if false = 0

abbrev pub count : (ℕ → Bool) → ℕ → ℕ
count p zero = 0
count p (suc n) = one_if (p n) + count p n

pub count_le : (p : ℕ → Bool) (n : ℕ) → count p n ≤ n
count_le p zero = omega arith
count_le p (suc n) = let ih = count_le p n in grind arith

-- whatever passes p passes q: q counts no fewer
pub count_mono : (p q : ℕ → Bool) → ((k : ℕ) → p k ≡ true → q k ≡ true) → (n : ℕ) → count p n ≤ count q n
count_mono p q h zero = omega arith
count_mono p q h (suc n) = let ih = count_mono p q h n in grind arith

-- and one more, where one number passes q alone
pub count_more : (p q : ℕ → Bool) → ((k : ℕ) → p k ≡ true → q k ≡ true) → (c : ℕ) → p c ≡ false → q c ≡ true → (n : ℕ) → c < n → count p n < count q n
count_more p q h c np yq zero l = omega arith
count_more p q h c np yq (suc n) l = let ih = count_more p q h c np yq n in grind (arith, count_mono p q h n)
