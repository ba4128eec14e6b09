-- Marks renewed one column after the other. Assumes nothing.
use Rattle.std.proofs.Common.{◌≡◌, ℕ, ◌+◌, ◌<◌, ◌≤◌, cond, ltb, ◌≢◌, ◌⊎◌, List, length, get_or, set, sym, ap, ◌∙◌, inl, inr, arith}
use Rattle.std.proofs.lemmas.List.FromFn.{fill_by_all}
use Rattle.std.proofs.lemmas.List.{get_or-set_same, get_or-set_other}
use Rattle.std.proofs.lemmas.Bool.{cases_lt, cases_eq, cond-true, cond-false, lt-ltb, le-ltb}
use Rattle.gate.specs.Scene.{Columns, mark_of, renewed_marks}

-- the columns below c are marked as their states say
abbrev pub Renewed : Columns → List ℕ → ℕ → List ℕ → Type 0
Renewed xs old c ms = (e : ℕ) → get_or ms e 0 ≡ cond (ltb e c) (mark_of xs e) (get_or old e 0)

module _ (xs : Columns) (old : List ℕ) where
  pub none_renewed : Renewed xs old 0 old
  none_renewed e = sym (cond-false (ltb e 0) (mark_of xs e) (get_or old e 0) (le-ltb e 0 (omega arith)))

  pub one_renewed : (ms : List ℕ) (c n : ℕ) → Renewed xs old c ms → c < length ms → n ≡ mark_of xs c → Renewed xs old (c + 1) (set ms c n)
  one_renewed ms c n h l i e = elim (cases_eq e c) [
    | inl q ↦ ap (λ k. get_or (set ms c n) k 0) q ∙ get_or-set_same ms c n 0 l ∙ i ∙ sym (ap (mark_of xs) q)
        ∙ sym (cond-true (ltb e (c + 1)) (mark_of xs e) (get_or old e 0) (lt-ltb e (c + 1) (omega arith)))
    | inr q ↦ get_or-set_other ms c e n 0 q ∙ h e ∙ same e q (cases_lt e c)
  ]
    where
      same : (e : ℕ) → e ≢ c → (e < c) ⊎ (c ≤ e) → cond (ltb e c) (mark_of xs e) (get_or old e 0) ≡ cond (ltb e (c + 1)) (mark_of xs e) (get_or old e 0)
      same e q (inl l) = cond-true (ltb e c) (mark_of xs e) (get_or old e 0) (lt-ltb e c l) ∙ sym (cond-true (ltb e (c + 1)) (mark_of xs e) (get_or old e 0) (lt-ltb e (c + 1) (omega arith)))
      same e q (inr l) =
          cond-false (ltb e c) (mark_of xs e) (get_or old e 0) (le-ltb e c l) ∙ sym (cond-false (ltb e (c + 1)) (mark_of xs e) (get_or old e 0) (le-ltb e (c + 1) (omega arith)))

  pub all_renewed : (end : ℕ) (ms : List ℕ) → length ms ≡ 256 → Renewed xs old end ms → ms ≡ renewed_marks end xs old
  all_renewed end ms long h = fill_by_all (λ c. cond (ltb c end) (mark_of xs c) (get_or old c 0)) ms 256 0 long (λ k _. h k)
