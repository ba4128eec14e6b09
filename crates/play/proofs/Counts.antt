-- Counting: where two tests differ at one element, and places that are the spots of counted elements. Assumes nothing.
use Rattle.std.proofs.Common.{◌≡◌, ℕ, zero, suc, ◌+◌, ◌<◌, ◌≤◌, Bool, true, false, not, ◌&&◌, eqb, ◌≢◌, ◌⊎◌, List, [], ◌∷◌, length, get_or, count_by, sym, refl, ap, inl, inr, arith}
use Rattle.std.proofs.lemmas.Bool.{cases_Bool, both_ways, and_parts, not-true, eqb-false, cases_eq}
use Rattle.std.proofs.lemmas.Bool.Decides.{nat_tests}
use Rattle.gate.specs.Scene.{one_if, sum_below}
use Rattle.plan.proofs.Counts.{count_same, count_by_cons, unit}

module _ {X : Type 0} where
  pub count_but_one : (p q : X → Bool) (d : X) (xs : List X) (k : ℕ) → k < length xs
      → ((i : ℕ) → i < length xs → i ≢ k → p (get_or xs i d) ≡ q (get_or xs i d))
      → count_by p xs + unit (q (get_or xs k d)) ≡ count_by q xs + unit (p (get_or xs k d))
  count_but_one p q d [] k l h = absurd (omega arith)
  count_but_one p q d (x ∷ xs) zero l h =
      let same = count_same p q d xs (λ i l. h (suc i) (omega arith) (omega arith)) in
      omega (arith, count_by_cons p x xs, count_by_cons q x xs)
  count_but_one p q d (x ∷ xs) (suc k) l h =
      let ih = count_but_one p q d xs k (omega arith) (λ i l n. h (suc i) (omega arith) (omega arith)) in
      omega (arith, count_by_cons p x xs, count_by_cons q x xs, ap unit (h 0 (omega arith) (omega arith)))

-- how many numbers below n pass a test
abbrev pub count : (ℕ → Bool) → ℕ → ℕ
count p n = sum_below (λ c. one_if (p c)) n

count_mono : (p q : ℕ → Bool) → ((k : ℕ) → p k ≡ true → q k ≡ true) → (n : ℕ) → count p n ≤ count q n
count_mono p q h zero = omega arith
count_mono p q h (suc n) = let ih = count_mono p q h n in grind arith

pub count_more : (p q : ℕ → Bool) → ((k : ℕ) → p k ≡ true → q k ≡ true) → (c : ℕ) → p c ≡ false → q c ≡ true → (n : ℕ) → c < n → count p n < count q n
count_more p q h c np yq zero l = omega arith
count_more p q h c np yq (suc n) l = let ih = count_more p q h c np yq n in grind (arith, count_mono p q h n)

count_zero : (p : ℕ → Bool) (n : ℕ) → ((k : ℕ) → k < n → p k ≡ true → ⊥) → count p n ≡ 0
count_zero p zero h = refl
count_zero p (suc n) h = let ih = count_zero p n (λ k l. h k (omega arith)) in let here = h n (omega arith) in grind arith

-- without x there is at most one less
abbrev but : (ℕ → Bool) → ℕ → ℕ → Bool
but p x c = p c && not (eqb c x)

count_but_past : (p : ℕ → Bool) (x n : ℕ) → n ≤ x → count p n ≤ count (but p x) n
count_but_past p x zero l = omega arith
count_but_past p x (suc n) l = let ih = count_but_past p x n (omega arith) in grind (arith, nat_tests)

count_but : (p : ℕ → Bool) (x n : ℕ) → count p n ≤ suc (count (but p x) n)
count_but p x zero = omega arith
count_but p x (suc n) =
    let ih = count_but p x n in
    let past = count_but_past p x n in
    elim (cases_eq n x) [ inl e ↦ grind arith | inr ne ↦ grind (arith, nat_tests) ]

module _ {X : Type 0} (q : X → Bool) (spot : X → ℕ) (d : X) where
  abbrev Spotted : List X → ℕ → Type 0
  Spotted xs c = (i : ℕ) × (i < length xs) × (q (get_or xs i d) ≡ true) × (spot (get_or xs i d) ≡ c)

  -- every number that passes is the spot of some element that is counted: then the elements are no fewer
  pub pigeons : (xs : List X) (p : ℕ → Bool) (n : ℕ) → ((c : ℕ) → c < n → p c ≡ true → Spotted xs c) → count p n ≤ count_by q xs
  pigeons [] p n h = let z = count_zero p n (λ c l e. let w = h c l e in omega (arith, w.1)) in omega arith
  pigeons (x ∷ xs) p n h = go (cases_Bool (q x)) (pigeons xs)
    where
      past : (c : ℕ) → (spot x ≡ c → q x ≡ true → ⊥) → Spotted (x ∷ xs) c → Spotted xs c
      past c k (zero, l, e, f) = absurd (k f e)
      past c k (suc i, l, e, f) = (i, omega arith, e, f)

      go : (q x ≡ true) ⊎ (q x ≡ false) → ((p : ℕ → Bool) (n : ℕ) → ((c : ℕ) → c < n → p c ≡ true → Spotted xs c) → count p n ≤ count_by q xs)
          → count p n ≤ count_by q (x ∷ xs)
      go (inl e) ih =
          let rest = ih (but p (spot x)) n (λ c l g. let w = and_parts (p c) (not (eqb c (spot x))) g in
          past c (λ f _. eqb-false c (spot x) (not-true (eqb c (spot x)) w.1) (sym f)) (h c l w.0)) in
          omega (arith, count_but p (spot x) n, count_by_cons q x xs, ap unit e)
      go (inr e) ih =
          let rest = ih p n (λ c l g. past c (λ _ f. both_ways (q x) e f) (h c l g)) in
          omega (arith, count_by_cons q x xs)
