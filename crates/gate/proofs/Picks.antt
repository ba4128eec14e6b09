-- The pick is the lowest of the columns with the fewest steps, if there is one. Assumes nothing.
use Rattle.std.proofs.Common.{◌≡◌, ℕ, zero, suc, ◌<◌, ◌≤◌, ltb, Some, None, Option, sym, refl, ap, ◌∙◌, inl, inr, arith}
use Rattle.std.proofs.lemmas.Bool.{cases_eq, cond_both, ltb-true, ltb-false}
use Rattle.ways.proofs.Firsts.{none≢some}
use Rattle.gate.specs.Recall.{better, best_below}

abbrev pub Chosen : (ℕ → Option ℕ) → ℕ → Option (ℕ × ℕ) → Type 0
Chosen f n None = (k : ℕ) → k < n → f k ≡ None
Chosen f n (Some p) =
    (p.0 < n) × (f p.0 ≡ Some p.1) × ((k i : ℕ) → k < n → f k ≡ Some i → p.1 ≤ i) × ((k : ℕ) → k < n → f k ≡ Some p.1 → p.0 ≤ k)

module _ (f : ℕ → Option ℕ) where
  more : (n : ℕ) (best : Option (ℕ × ℕ)) → Chosen f n best → (o : Option ℕ) → f n ≡ o → Chosen f (suc n) (better best n o)
  more n None h None e = λ k l. elim (cases_eq k n) [ inl i ↦ ap f i ∙ e | inr i ↦ h k (omega arith) ]
  more n (Some p) h None e = (
    omega (arith, h.0),
    h.1,
    λ k i l g. elim (cases_eq k n) [ inl q ↦ absurd (none≢some (sym e ∙ sym (ap f q) ∙ g)) | inr q ↦ h.2 k i (omega arith) g ],
    λ k l g. elim (cases_eq k n) [ inl q ↦ omega (arith, h.0) | inr q ↦ h.3 k (omega arith) g ],
  )
  more n None h (Some x) e = (
    omega arith,
    e,
    λ k i l g. elim (cases_eq k n) [
      | inl q ↦ let same : x ≡ i = cc (ap f q) in omega arith
      | inr q ↦ absurd (none≢some (sym (h k (omega arith)) ∙ g))
    ],
    λ k l g. elim (cases_eq k n) [ inl q ↦ omega arith | inr q ↦ absurd (none≢some (sym (h k (omega arith)) ∙ g)) ],
  )
  more n (Some p) h (Some x) e =
      cond_both (ltb x p.1) (Some (n, x)) (Some p) (Chosen f (suc n))
      (λ t. (
        omega arith,
        e,
        λ k i l g. let lt = ltb-true x p.1 t in elim (cases_eq k n) [
          | inl q ↦ let same : x ≡ i = cc (ap f q) in omega arith
          | inr q ↦ omega (arith, h.2 k i (omega arith) g)
        ],
        λ k l g. let lt = ltb-true x p.1 t in elim (cases_eq k n) [ inl q ↦ omega arith | inr q ↦ absurd (omega (arith, h.2 k x (omega arith) g)) ],
      ))
      (λ t. (
        omega (arith, h.0),
        h.1,
        λ k i l g. let ge = ltb-false x p.1 t in elim (cases_eq k n) [
          | inl q ↦ let same : x ≡ i = cc (ap f q) in omega arith
          | inr q ↦ h.2 k i (omega arith) g
        ],
        λ k l g. elim (cases_eq k n) [ inl q ↦ omega (arith, h.0) | inr q ↦ h.3 k (omega arith) g ],
      ))

  pub chosen : (n : ℕ) → Chosen f n (best_below f n)
  chosen zero = λ k l. absurd (omega arith)
  chosen (suc n) = more n (best_below f n) (chosen n) (f n) refl
