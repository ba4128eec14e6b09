-- The most actions that run at one time run at some start. Assumes nothing.
use Rattle.std.proofs.Common.{◌≡◌, ℕ, ◌+◌, ◌<◌, ◌≤◌, max, true, false, cond, ◌⊎◌, List, [], ◌∷◌, ◌++◌, length, count_by, refl, ap, inl, inr, arith}
use Rattle.std.proofs.lemmas.List.Recursion.{max_bounds}
use Rattle.std.proofs.lemmas.Bool.{cases_Bool, cases_lt}
use Rattle.std.proofs.lemmas.List.Sums.{count_by-le-length, sum_by-append}
use Rattle.plan.specs.Plan.{Action, line, no_action, runs}
use Rattle.plan.proofs.Busiest.{busiest}
use Rattle.plan.proofs.Counts.{count_by_cons, count_le, unit}
use Rattle.plan.proofs.Searches.{decides_runs}
use Rattle.judge.specs.Figures.{beside, largest, most_at_once}
use Rattle.judge.proofs.Searches.{largest_at}

module _ (plan : List Action) where
  pub most_never : (t : ℕ) → count_by (runs t) plan ≤ most_at_once plan
  most_never t = go (busiest t plan)
    where
      go : (count_by (runs t) plan ≡ 0) ⊎ ((k : ℕ) × (k < length plan) × (count_by (runs t) plan ≤ count_by (runs (line plan k).start) plan)) → count_by (runs t) plan ≤ most_at_once plan
      go (inl e) = omega arith
      go (inr (k, l, h)) = omega (arith, h, max_bounds (largest (beside plan)) (beside plan) refl (λ _ _. refl) plan k no_action l)

  pub most_reached : (t : ℕ) × (count_by (runs t) plan ≡ most_at_once plan)
  most_reached = go (largest_at (largest (beside plan)) (beside plan) refl (λ _ _. refl) no_action plan)
    where
      go : ((length plan ≡ 0) × (most_at_once plan ≡ 0)) ⊎ ((i : ℕ) × (i < length plan) × (beside plan (line plan i) ≡ most_at_once plan)) → (t : ℕ) × (count_by (runs t) plan ≡ most_at_once plan)
      go (inl z) = (0, omega (arith, count_by-le-length (runs 0) plan))
      go (inr (i, l, e)) = ((line plan i).start, e)

-- what some time reaches and none exceeds is one number
only_one : (plan : List Action) (m n : ℕ) → ((t : ℕ) × (count_by (runs t) plan ≡ m)) → ((t : ℕ) → count_by (runs t) plan ≤ m)
    → ((t : ℕ) × (count_by (runs t) plan ≡ n)) → ((t : ℕ) → count_by (runs t) plan ≤ n) → m ≡ n
only_one plan m n r a s b = omega (arith, r.1, s.1, a s.0, b r.0)

-- one action more, no start after its own: the most is as it was, or those that run at its start
module _ (plan : List Action) (a : Action) (begun : (i : ℕ) → i < length plan → (line plan i).start ≤ a.start) (o : a.start < a.end) where
  abbrev crowd : ℕ
  crowd = count_by (runs a.start) plan + 1

  more : (t : ℕ) → count_by (runs t) (plan ++ (a ∷ [])) ≡ count_by (runs t) plan + unit (runs t a)
  more t = omega (arith, sum_by-append (λ (b : Action). cond (runs t b) 1 0) plan (a ∷ []), count_by_cons (runs t) a [])

  here : runs a.start a ≡ true
  here = (decides_runs a.start a).1 (record { begun = omega arith; before_end = o })

  beneath : (t : ℕ) → runs t a ≡ true → count_by (runs t) plan ≤ count_by (runs a.start) plan
  beneath t y =
      let at = (decides_runs t a).0 y in
      count_le (runs t) (runs a.start) no_action plan
      (λ i l r. let q = (decides_runs t (line plan i)).0 r in
      (decides_runs a.start (line plan i)).1 (record { begun = begun i l; before_end = omega (arith, at.begun, q.before_end) }))

  never : (t : ℕ) → count_by (runs t) (plan ++ (a ∷ [])) ≤ max (most_at_once plan) crowd
  never t = go (cases_Bool (runs t a))
    where
      go : (runs t a ≡ true) ⊎ (runs t a ≡ false) → count_by (runs t) (plan ++ (a ∷ [])) ≤ max (most_at_once plan) crowd
      go (inl y) = omega (arith, more t, ap unit y, beneath t y)
      go (inr f) = omega (arith, more t, ap unit f, most_never plan t)

  reached : (t : ℕ) × (count_by (runs t) (plan ++ (a ∷ [])) ≡ max (most_at_once plan) crowd)
  reached = go (cases_lt (most_at_once plan) crowd) (most_reached plan)
    where
      go : (most_at_once plan < crowd) ⊎ (crowd ≤ most_at_once plan) → ((t : ℕ) × (count_by (runs t) plan ≡ most_at_once plan))
          → (t : ℕ) × (count_by (runs t) (plan ++ (a ∷ [])) ≡ max (most_at_once plan) crowd)
      go (inl l) w = (a.start, omega (arith, more a.start, ap unit here))
      go (inr g) (t, e) = (t, out (cases_Bool (runs t a)))
        where
          out : (runs t a ≡ true) ⊎ (runs t a ≡ false) → count_by (runs t) (plan ++ (a ∷ [])) ≡ max (most_at_once plan) crowd
          out (inl y) = absurd (omega (arith, beneath t y))
          out (inr f) = omega (arith, more t, ap unit f)

  pub most_push : most_at_once (plan ++ (a ∷ [])) ≡ max (most_at_once plan) (count_by (runs a.start) plan + 1)
  most_push = only_one (plan ++ (a ∷ [])) _ _ (most_reached (plan ++ (a ∷ []))) (most_never (plan ++ (a ∷ []))) reached never
