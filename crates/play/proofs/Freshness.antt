-- The test for a fresh site decides whether it is. Assumes nothing.
use Rattle.std.proofs.Common.{◌≡◌, ℕ, zero, suc, ◌<◌, Bool, true, false, eqb, Decides, refl, ap, inl, inr, arith}
use Rattle.std.proofs.lemmas.Bool.{cases_eq}
use Rattle.std.proofs.lemmas.Bool.Decides.{Decides-and, Decides-eqb, Decides-like}
use Rattle.gate.specs.Column.{robot}
use Rattle.gate.specs.Scene.{Scene, blocks_standing, height_at, one_if, robots, state_at, sum_below}
use Rattle.play.specs.Play.{Fresh, is_fresh}

-- a sum is 0 exactly where every part is
all_zero : (f : ℕ → ℕ) (n : ℕ) → sum_below f n ≡ 0 → (c : ℕ) → c < n → f c ≡ 0
all_zero f zero e c l = absurd (omega arith)
all_zero f (suc n) e c l =
    elim (cases_eq c n) [ inl q ↦ omega (arith, ap f q) | inr o ↦ all_zero f n (omega arith) c (omega arith) ]

zero_all : (f : ℕ → ℕ) (n : ℕ) → ((c : ℕ) → c < n → f c ≡ 0) → sum_below f n ≡ 0
zero_all f zero h = refl
zero_all f (suc n) h = omega (arith, h n (omega arith), zero_all f n (λ c l. h c (omega arith)))

none_if : (b : Bool) → one_if b ≡ 0 → b ≡ false
none_if true e = absurd (omega arith)
none_if false e = refl

pub fresh_decides : (v : Scene) → Decides (is_fresh v) (Fresh v)
fresh_decides v =
    let xs = v.columns in
    let n : ℕ = v.meaning.columns in
    Decides-like (is_fresh v)
    (λ h. record { no_robot = λ c l. none_if (robot (state_at xs c)) (all_zero (λ c. one_if (robot (state_at xs c))) n h.0 c l); flat = all_zero (height_at xs) n h.1 })
    (λ h. (zero_all (λ c. one_if (robot (state_at xs c))) n (λ c l. ap one_if (h.no_robot c l)), zero_all (height_at xs) n h.flat))
    (Decides-and (eqb (robots v.meaning xs) 0) (eqb (blocks_standing v.meaning xs) 0)
    (Decides-eqb (robots v.meaning xs) 0) (Decides-eqb (blocks_standing v.meaning xs) 0))
