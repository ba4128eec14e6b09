-- The lowest end column of those that pass a test. Assumes nothing.
use Rattle.std.proofs.Common.{◌≡◌, ℕ, zero, suc, ◌<◌, ◌≤◌, min, Bool, true, false, cond, ◌⊎◌, List, [], ◌∷◌, map, length, Some, None, Option, sym, refl, ap, ◌∙◌, subst, inl, inr, arith}
use Rattle.std.specs.List.{filter, fold, reduce}
use Rattle.std.specs.Option.{option_map}
use Rattle.std.proofs.lemmas.Bool.{both_ways, cases_Bool, cases_lt}
use Rattle.plan.specs.declared.action.Action.{Action as Held}
use Rattle.plan.specs.Plan.{Action, end_column, line}
use Rattle.plan.specs.View.{action_of, plan_of}
use Rattle.judge.specs.Finding.{Lowest, lower_of}

lower_from : (c d : ℕ) (cs : List ℕ) → fold min (min c d) cs ≡ min (fold min d cs) c
lower_from c d [] = omega arith
lower_from c d (e ∷ cs) = let swap : min (min c d) e ≡ min c (min d e) = omega arith in ap (λ (n : ℕ). fold min n cs) swap ∙ lower_from c (min d e) cs

lower_cons : (c : ℕ) (cs : List ℕ) → reduce min (c ∷ cs) ≡ Some (lower_of (reduce min cs) c)
lower_cons c [] = refl
lower_cons c (d ∷ cs) = ap Some (lower_from c d cs)

module _ (p : Action → Bool) where
  lowest_no : (a : Action) (rest : List Action) (o : Option ℕ) → p a ≡ false → Lowest p rest o → Lowest p (a ∷ rest) o
  lowest_no a rest None f low = none
    where
      none : (i : ℕ) → i < length (a ∷ rest) → p (line (a ∷ rest) i) ≡ true → ⊥
      none zero l t = both_ways (p a) f t
      none (suc i) l t = low i (omega arith) t
  lowest_no a rest (Some c) f low = let (i, l, t, e) = low.0 in ((suc i, omega arith, t, e), above)
    where
      above : (i : ℕ) → i < length (a ∷ rest) → p (line (a ∷ rest) i) ≡ true → c ≤ end_column (line (a ∷ rest) i)
      above zero l t = absurd (both_ways (p a) f t)
      above (suc i) l t = low.1 i (omega arith) t

  lowest_yes : (a : Action) (rest : List Action) (o : Option ℕ) → p a ≡ true → Lowest p rest o → Lowest p (a ∷ rest) (Some (lower_of o (end_column a)))
  lowest_yes a rest None y low = ((0, omega arith, y, refl), above)
    where
      above : (i : ℕ) → i < length (a ∷ rest) → p (line (a ∷ rest) i) ≡ true → end_column a ≤ end_column (line (a ∷ rest) i)
      above zero l t = omega arith
      above (suc i) l t = absurd (low i (omega arith) t)
  lowest_yes a rest (Some d) y low = (at (cases_lt d (end_column a)) low.0, above)
    where
      at : (d < end_column a) ⊎ (end_column a ≤ d) → ((i : ℕ) × (i < length rest) × (p (line rest i) ≡ true) × (end_column (line rest i) ≡ d))
          → (i : ℕ) × (i < length (a ∷ rest)) × (p (line (a ∷ rest) i) ≡ true) × (end_column (line (a ∷ rest) i) ≡ min d (end_column a))
      at (inl b) (i, l, t, e) = (suc i, omega arith, t, omega arith)
      at (inr g) w = (0, omega arith, y, omega arith)

      above : (i : ℕ) → i < length (a ∷ rest) → p (line (a ∷ rest) i) ≡ true → min d (end_column a) ≤ end_column (line (a ∷ rest) i)
      above zero l t = omega arith
      above (suc i) l t = omega (arith, low.1 i (omega arith) t)

  -- of the actions of a slice: the end columns of those that pass, where the first of them passes or not
  abbrev columns : Bool → Held → List Held → List ℕ
  columns b x xs = map (λ y. end_column (action_of y)) (cond b (x ∷ filter (λ y. p (action_of y)) xs) (filter (λ y. p (action_of y)) xs))

  pub lowest_is : (xs : List Held) → Lowest p (plan_of xs) (reduce min (map (λ x. end_column (action_of x)) (filter (λ x. p (action_of x)) xs)))
  lowest_is [] = λ i l t. absurd (omega arith)
  lowest_is (x ∷ xs) = go (cases_Bool (p (action_of x))) (lowest_is xs)
    where
      go : (p (action_of x) ≡ true) ⊎ (p (action_of x) ≡ false) → Lowest p (plan_of xs) (reduce min (columns false x xs))
          → Lowest p (plan_of (x ∷ xs)) (reduce min (columns (p (action_of x)) x xs))
      go (inl y) low =
          subst (Lowest p (plan_of (x ∷ xs))) (sym (ap (λ (b : Bool). reduce min (columns b x xs)) y ∙ lower_cons (end_column (action_of x)) (columns false x xs)))
          (lowest_yes (action_of x) (plan_of xs) (reduce min (columns false x xs)) y low)
      go (inr f) low =
          subst (Lowest p (plan_of (x ∷ xs))) (sym (ap (λ (b : Bool). reduce min (columns b x xs)) f))
          (lowest_no (action_of x) (plan_of xs) (reduce min (columns false x xs)) f low)

  -- as a search for the least column answers
  pub lowest_found : (xs : List Held) (o : Option ℕ) → option_map (λ n. n) o ≡ reduce min (map (λ x. end_column (action_of x)) (filter (λ x. p (action_of x)) xs)) → Lowest p (plan_of xs) o
  lowest_found xs o e = subst (Lowest p (plan_of xs)) (sym (same o ∙ e)) (lowest_is xs)
    where
      same : (o : Option ℕ) → o ≡ option_map (λ n. n) o
      same None = refl
      same (Some n) = refl
