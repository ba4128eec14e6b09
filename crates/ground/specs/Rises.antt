-- A list that rises and has just the numbers that pass a test is what the test keeps. Assumes nothing.
use Rattle.std.specs.Prelude.{◌≡◌, ℕ, zero, suc, ◌+◌, ◌<◌, ◌≤◌, Bool, true, false, ◌||◌, List, [], ◌∷◌, filter, ◌==◌, refl}
use Rattle.std.proofs.Common.{sym, ap, ◌∙◌, ⊎_elim, arith}
use Rattle.std.specs.List.{range_with_len}
use Rattle.std.proofs.lemmas.Bool.{cases_eq, cond-true, cond-false, eq-eqb, ne_eqb, or_from, or_left}
use Rattle.ground.specs.Members.{has}

-- each is above the one before it, and the first is no less than a
abbrev pub Rising : ℕ → List ℕ → Type 0
Rising a [] = Unit {0}
Rising a (x ∷ xs) = (a ≤ x) × Rising (suc x) xs

pub rising_lower : (a b : ℕ) (xs : List ℕ) → a ≤ b → Rising b xs → Rising a xs
rising_lower a b [] h r = tt
rising_lower a b (x ∷ xs) h r = (omega (arith, r.0), r.1)

pub has_none_below : (a d : ℕ) (xs : List ℕ) → Rising a xs → d < a → has d xs ≡ false
has_none_below a d [] r h = refl
has_none_below a d (x ∷ xs) r h =
    or_from (d == x) (has d xs) (ne_eqb d x (λ e. omega (arith, r.0))) (has_none_below (suc x) d xs r.1 (omega (arith, r.0)))

module _ (p : ℕ → Bool) (m : ℕ) (within : (d : ℕ) → p d ≡ true → d < m) where
  kept_from : (n a : ℕ) (xs : List ℕ) → a + n ≡ m → Rising a xs → ((d : ℕ) → a ≤ d → p d ≡ has d xs) → filter p (range_with_len a n) ≡ xs
  kept_from zero a [] e r same = refl
  kept_from zero a (x ∷ xs) e r same =
      let lt : x < m = within x (same x r.0 ∙ or_left (x == x) (has x xs) (eq-eqb x x refl)) in
      absurd (omega (arith, r.0))
  kept_from (suc n) a [] e r same =
      cond-false (p a) _ _ (same a (omega arith)) ∙ kept_from n (a + 1) [] (omega arith) tt (λ d h. same d (omega arith))
  kept_from (suc n) a (x ∷ xs) e r same =
      ⊎_elim
      (λ (here : x ≡ a).
      let rest : filter p (range_with_len (a + 1) n) ≡ xs =
      kept_from n (a + 1) xs (omega arith) (rising_lower (a + 1) (suc x) xs (omega arith) r.1)
      (λ d h. same d (omega arith) ∙ ap (λ b. b || has d xs) (ne_eqb d x (λ q. omega arith)))
      in
      cond-true (p a) _ _ (same a (omega arith) ∙ or_left (a == x) (has a xs) (eq-eqb a x (sym here))) ∙ cc)
      (λ (later : x ≡ a → ⊥).
      let gt : a + 1 ≤ x = omega (arith, r.0) in
      let up : Rising (a + 1) (x ∷ xs) = (gt, r.1) in
      cond-false (p a) _ _ (same a (omega arith) ∙ has_none_below (a + 1) a (x ∷ xs) up (omega arith)) ∙ kept_from n (a + 1) (x ∷ xs) (omega arith) up (λ d h. same d (omega arith)))
      (cases_eq x a)

  pub kept_rising : (xs : List ℕ) → Rising 0 xs → ((d : ℕ) → p d ≡ has d xs) → filter p (range_with_len 0 m) ≡ xs
  kept_rising xs r same = kept_from m 0 xs (omega arith) r (λ d h. same d)
