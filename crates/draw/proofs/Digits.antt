-- The decimal digits of a number one by one, and which of its places show one. A height fills its three places so.
use Rattle.std.proofs.Common.{◌≡◌, ℕ, ◌+◌, ◌-◌, ◌/◌, ◌%◌, ◌<◌, ◌≤◌, Bool, cond, nat_le, List, [], ◌∷◌, ◌++◌, length, replicate, drop, decimal, ap, ◌∙◌, ⊎_elim, arith}
use Rattle.std.proofs.lemmas.Fmt.{decimal_digit, decimal_step}
use Rattle.std.proofs.lemmas.Bool.{cases_lt, le-leb, lt-leb}
use Rattle.draw.specs.Places.{justified}
use Rattle.draw.specs.Rows.{cell}

-- a place that n reaches, and one that it does not
pub shows : (p n k : ℕ) → p ≤ n → cond (nat_le p n) k 32 ≡ k
shows p n k h = ap (λ (b : Bool). cond b k 32) (le-leb p n h)

pub spaced : (p n k : ℕ) → n < p → cond (nat_le p n) k 32 ≡ 32
spaced p n k h = ap (λ (b : Bool). cond b k 32) (lt-leb p n h)

pub one : (n : ℕ) → n < 10 → decimal n ≡ (48 + n % 10) ∷ []
one n h = let e : n ≡ n % 10 = omega arith in decimal_digit n h ∙ ap (λ (k : ℕ). (48 + k) ∷ []) e

pub two : (n : ℕ) → 10 ≤ n → n < 100 → decimal n ≡ (48 + n / 10 % 10) ∷ (48 + n % 10) ∷ []
two n low high = decimal_step n low (omega arith) ∙ ap (λ (l : List ℕ). l ++ ((48 + n % 10) ∷ [])) (one (n / 10) (omega arith))

pub three : (n : ℕ) → 100 ≤ n → n < 1000 → decimal n ≡ (48 + n / 100 % 10) ∷ (48 + n / 10 % 10) ∷ (48 + n % 10) ∷ []
three n low high =
    let e : n / 10 / 10 ≡ n / 100 = omega arith in
    decimal_step n (omega arith) (omega arith)
    ∙ ap (λ (l : List ℕ). l ++ ((48 + n % 10) ∷ [])) (two (n / 10) (omega arith) (omega arith))
    ∙ ap (λ (k : ℕ). (48 + k % 10) ∷ (48 + n / 10 % 10) ∷ (48 + n % 10) ∷ []) e

in_three : List ℕ → List ℕ
in_three l = replicate (3 - length l) 32 ++ drop (length l - 3) l

right_three : List ℕ → List ℕ
right_three l = replicate (3 - length l) 32 ++ l

cell_from : (n a b : ℕ) → cond (nat_le 100 n) (48 + n / 100) 32 ≡ a → cond (nat_le 10 n) (48 + n / 10 % 10) 32 ≡ b → a ∷ b ∷ (48 + n % 10) ∷ [] ≡ cell n
cell_from n a b p q = cc

pub cell_justified : (n : ℕ) → n < 256 → justified 3 n ≡ cell n
unfolding in_three
cell_justified n high =
    let small : n / 100 ≡ n / 100 % 10 = omega arith in
    ⊎_elim (λ h. ap in_three (one n h) ∙ cell_from n 32 32 (spaced 100 n _ (omega arith)) (spaced 10 n _ h))
    (λ h1. ⊎_elim (λ h. ap in_three (two n h1 h) ∙ cell_from n 32 _ (spaced 100 n _ h) (shows 10 n _ h1))
    (λ h2. ap in_three (three n h2 (omega arith)) ∙ cell_from n _ _ (shows 100 n _ h2 ∙ ap (λ (k : ℕ). 48 + k) small) (shows 10 n _ h1)) (cases_lt n 100))
    (cases_lt n 10)

-- and stands to the right of them
pub cell_right : (n : ℕ) → n < 256 → replicate (3 - length (decimal n)) 32 ++ decimal n ≡ cell n
unfolding right_three
cell_right n high =
    let small : n / 100 ≡ n / 100 % 10 = omega arith in
    ⊎_elim (λ h. ap right_three (one n h) ∙ cell_from n 32 32 (spaced 100 n _ (omega arith)) (spaced 10 n _ h))
    (λ h1. ⊎_elim (λ h. ap right_three (two n h1 h) ∙ cell_from n 32 _ (spaced 100 n _ h) (shows 10 n _ h1))
    (λ h2. ap right_three (three n h2 (omega arith)) ∙ cell_from n _ _ (shows 100 n _ h2 ∙ ap (λ (k : ℕ). 48 + k) small) (shows 10 n _ h1)) (cases_lt n 100))
    (cases_lt n 10)
