-- At no time do more actions run than at the start of some action. Assumes nothing.
use Rattle.std.proofs.Common.{◌≡◌, ℕ, zero, suc, ◌<◌, ◌≤◌, true, false, ◌⊎◌, List, [], ◌∷◌, length, count_by, inl, inr, arith}
use Rattle.std.proofs.lemmas.Bool.{both_ways, cases_Bool, cases_lt}
use Rattle.plan.specs.Plan.{Action, Runs, line, no_action, runs}
use Rattle.plan.proofs.Counts.{count_le, count_none}
use Rattle.plan.proofs.Searches.{decides_runs}

-- of those that run at t, one starts last
abbrev Latest : List Action → ℕ → Type 0
Latest xs t = (i : ℕ) × (i < length xs) × Runs (line xs i) t × ((k : ℕ) → k < length xs → Runs (line xs k) t → (line xs k).start ≤ (line xs i).start)

latest : (t : ℕ) (xs : List Action) → ((i : ℕ) → i < length xs → Runs (line xs i) t → ⊥) ⊎ Latest xs t
latest t [] = inl (λ i l r. omega arith)
latest t (x ∷ xs) = go (cases_Bool (runs t x)) (latest t xs)
  where
    go : (runs t x ≡ true) ⊎ (runs t x ≡ false) → ((i : ℕ) → i < length xs → Runs (line xs i) t → ⊥) ⊎ Latest xs t
        → ((i : ℕ) → i < length (x ∷ xs) → Runs (line (x ∷ xs) i) t → ⊥) ⊎ Latest (x ∷ xs) t
    go (inr f) (inl none) = inl out
      where
        out : (i : ℕ) → i < length (x ∷ xs) → Runs (line (x ∷ xs) i) t → ⊥
        out zero l r = both_ways (runs t x) f ((decides_runs t x).1 r)
        out (suc i) l r = none i (omega arith) r
    go (inl y) (inl none) = inr (0, omega arith, (decides_runs t x).0 y, first)
      where
        first : (k : ℕ) → k < length (x ∷ xs) → Runs (line (x ∷ xs) k) t → (line (x ∷ xs) k).start ≤ x.start
        first zero l r = omega arith
        first (suc k) l r = absurd (none k (omega arith) r)
    go (inr f) (inr (i, l, r, best)) = inr (suc i, omega arith, r, later)
      where
        later : (k : ℕ) → k < length (x ∷ xs) → Runs (line (x ∷ xs) k) t → (line (x ∷ xs) k).start ≤ (line xs i).start
        later zero m q = absurd (both_ways (runs t x) f ((decides_runs t x).1 q))
        later (suc k) m q = best k (omega arith) q
    go (inl y) (inr (i, l, r, best)) = pick (cases_lt (line xs i).start x.start)
      where
        first : (line xs i).start < x.start → (k : ℕ) → k < length (x ∷ xs) → Runs (line (x ∷ xs) k) t → (line (x ∷ xs) k).start ≤ x.start
        first g zero m q = omega arith
        first g (suc k) m q = let b = best k (omega arith) q in omega arith

        later : x.start ≤ (line xs i).start → (k : ℕ) → k < length (x ∷ xs) → Runs (line (x ∷ xs) k) t → (line (x ∷ xs) k).start ≤ (line xs i).start
        later g zero m q = g
        later g (suc k) m q = best k (omega arith) q

        pick : ((line xs i).start < x.start) ⊎ (x.start ≤ (line xs i).start) → ((i : ℕ) → i < length (x ∷ xs) → Runs (line (x ∷ xs) i) t → ⊥) ⊎ Latest (x ∷ xs) t
        pick (inl g) = inr (0, omega arith, (decides_runs t x).0 y, first g)
        pick (inr g) = inr (suc i, omega arith, r, later g)

pub busiest : (t : ℕ) (plan : List Action) → (count_by (runs t) plan ≡ 0) ⊎ ((i : ℕ) × (i < length plan) × (count_by (runs t) plan ≤ count_by (runs (line plan i).start) plan))
busiest t plan = go (latest t plan)
  where
    go : ((i : ℕ) → i < length plan → Runs (line plan i) t → ⊥) ⊎ Latest plan t
        → (count_by (runs t) plan ≡ 0) ⊎ ((i : ℕ) × (i < length plan) × (count_by (runs t) plan ≤ count_by (runs (line plan i).start) plan))
    go (inl none) = inl (count_none (runs t) no_action plan (λ i l. not_so i l (cases_Bool (runs t (line plan i)))))
      where
        not_so : (i : ℕ) → i < length plan → (runs t (line plan i) ≡ true) ⊎ (runs t (line plan i) ≡ false) → runs t (line plan i) ≡ false
        not_so i l (inl y) = absurd (none i l ((decides_runs t (line plan i)).0 y))
        not_so i l (inr f) = f
    go (inr (i, l, r, best)) =
        inr (
          i,
          l,
          count_le (runs t) (runs (line plan i).start) no_action plan
              (λ k m y. let q = (decides_runs t (line plan k)).0 y in
              (decides_runs (line plan i).start (line plan k)).1 (record { begun = best k m q; before_end = omega (arith, r.begun, q.before_end) })),
        )
