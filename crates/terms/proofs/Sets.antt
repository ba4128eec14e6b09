-- The set of durations of a number, in words. Assumes nothing.
use Rattle.std.proofs.Common.{◌≡◌, ℕ, Bool, true, false, cond, eqb, Some, None, refl, subst}
use Rattle.std.proofs.lemmas.Bool.{eqb-true}
use Rattle.terms.specs.Durations.{IsSet, Times, duration_set, times}

pub is_set : (n : ℕ) (t : Times) → Some t ≡ duration_set n → IsSet n t
is_set n t e = go (eqb n 0) (eqb n 1) (eqb n 2) (eqb n 3) refl refl refl refl e
  where
    one : (k : ℕ) (u : Times) → eqb n k ≡ true → IsSet k u → Some t ≡ Some u → IsSet n t
    one k u en s es =
        let i : k ≡ n = let j = eqb-true n k en in cc in
        let j : u ≡ t = cc in
        let P : ℕ → Type 0 = λ m. IsSet m t in
        subst P i (subst (IsSet k) j s)

    go : (p q r s : Bool) → eqb n 0 ≡ p → eqb n 1 ≡ q → eqb n 2 ≡ r → eqb n 3 ≡ s
        → Some t ≡ cond p (Some (times 1 1 1 1 1 1)) (cond q (Some (times 2 1 1 1 2 2)) (cond r (Some (times 3 2 3 1 3 3)) (cond s (Some (times 3 3 3 2 2 3)) None))) → IsSet n t
    go true q r s ep eq er es f = one 0 _ ep IsSet.first f
    go false true r s ep eq er es f = one 1 _ eq IsSet.second f
    go false false true s ep eq er es f = one 2 _ er IsSet.third f
    go false false false true ep eq er es f = one 3 _ es IsSet.fourth f
    go false false false false ep eq er es f = cc
