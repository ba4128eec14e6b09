-- Sums over the numbers below n, under a change of the summand at one or two numbers. Assumes nothing.
use Rattle.std.proofs.Common.{◌≡◌, ℕ, zero, suc, ◌+◌, ◌<◌, ◌≤◌, cond, eqb, ◌≢◌, ◌⊎◌, sym, refl, ap, ◌∙◌, inl, inr, arith}
use Rattle.std.proofs.lemmas.Bool.{cases_eq, cond-true, cond-false, eq-eqb, ne_eqb}
use Rattle.gate.specs.Scene.{sum_below}

pub zeros : (f : ℕ → ℕ) (n : ℕ) → ((k : ℕ) → k < n → f k ≡ 0) → sum_below f n ≡ 0
zeros f zero h = refl
zeros f (suc n) h = let ih = zeros f n (λ k l. h k (omega arith)) in omega (arith, h n (omega arith))

module _ (f g : ℕ → ℕ) where
  pub sum_same : (n : ℕ) → ((k : ℕ) → k < n → f k ≡ g k) → sum_below f n ≡ sum_below g n
  sum_same zero h = refl
  sum_same (suc n) h = let ih = sum_same n (λ k l. h k (omega arith)) in omega (arith, h n (omega arith))

  pub sum_le : (n : ℕ) → ((k : ℕ) → k < n → f k ≤ g k) → sum_below f n ≤ sum_below g n
  sum_le zero h = omega arith
  sum_le (suc n) h = let ih = sum_le n (λ k l. h k (omega arith)) in omega (arith, h n (omega arith))

  pub sum_add : (n : ℕ) → sum_below (λ k. f k + g k) n ≡ sum_below f n + sum_below g n
  sum_add zero = refl
  sum_add (suc n) = let ih = sum_add n in omega arith

  -- f and g differ at c at most
  pub sum_change : (n c : ℕ) → c < n → ((k : ℕ) → k ≢ c → f k ≡ g k) → sum_below f n + g c ≡ sum_below g n + f c
  sum_change zero c l h = absurd (omega arith)
  sum_change (suc n) c l h = go (cases_eq n c) (sum_change n c)
    where
      go : (n ≡ c) ⊎ (n ≡ c → ⊥) → (c < n → ((k : ℕ) → k ≢ c → f k ≡ g k) → sum_below f n + g c ≡ sum_below g n + f c)
          → sum_below f (suc n) + g c ≡ sum_below g (suc n) + f c
      go (inl e) ih = omega (arith, sum_same n (λ k l. h k (omega arith)), ap f e, ap g e)
      go (inr e) ih = omega (arith, ih (omega arith) h, h n e)

pub sum_has : (f : ℕ → ℕ) (n c : ℕ) → c < n → f c ≤ sum_below f n
sum_has f zero c l = absurd (omega arith)
sum_has f (suc n) c l = go (cases_eq n c) (sum_has f n c)
  where
    go : (n ≡ c) ⊎ (n ≡ c → ⊥) → (c < n → f c ≤ sum_below f n) → f c ≤ sum_below f (suc n)
    go (inl e) ih = omega (arith, ap f e)
    go (inr e) ih = omega (arith, ih (omega arith))

-- f and g differ at c and d at most
pub sum_change_two : (f g : ℕ → ℕ) (n c d : ℕ) → c < n → d < n → c ≢ d → ((k : ℕ) → k ≢ c → k ≢ d → f k ≡ g k)
    → sum_below f n + (g c + g d) ≡ sum_below g n + (f c + f d)
sum_change_two f g n c d lc ld ne h =
    omega (arith, sum_change f mid n c lc (λ k e. sym (not_c k e)), sum_change mid g n d ld off_d, at_c, not_c d (λ e. ne (sym e)))
  where
    mid : ℕ → ℕ
    mid k = cond (eqb k c) (g k) (f k)

    at_c : mid c ≡ g c
    at_c = cond-true (eqb c c) (g c) (f c) (eq-eqb c c refl)

    not_c : (k : ℕ) → k ≢ c → mid k ≡ f k
    not_c k e = cond-false (eqb k c) (g k) (f k) (ne_eqb k c e)

    off_d : (k : ℕ) → k ≢ d → mid k ≡ g k
    off_d k e = elim (cases_eq k c) [ inl i ↦ cond-true (eqb k c) (g k) (f k) (eq-eqb k c i) | inr i ↦ not_c k i ∙ h k i e ]
