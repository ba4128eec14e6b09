-- Numbers as a program prints them, six wide. Assumes nothing.
use Rattle.std.specs.Prelude.{ℕ, ◌+◌, ◌-◌, ◌/◌, ◌%◌, cond, List, [], ◌∷◌, ◌++◌, length, replicate, decimal, nat_le}

-- the digit of n at the place of p, or a space where n has none there
abbrev pub place : ℕ → ℕ → ℕ
place p n = cond (nat_le p n) (48 + n / p % 10) 32

-- the last six digits of n, spaces in front
abbrev pub cells : ℕ → List ℕ
cells n = place 100000 n ∷ place 10000 n ∷ place 1000 n ∷ place 100 n ∷ place 10 n ∷ (48 + n % 10) ∷ []

-- n in decimal, justified to the right in six places
abbrev pub wide : ℕ → List ℕ
wide n = replicate (6 - length (decimal n)) 32 ++ decimal n
