-- What stands in an array that is made by calls, one for each place. Assumes nothing.
use Rattle.std.proofs.Common.{◌≡◌, ℕ, zero, suc, ◌+◌, ◌<◌, ◌≤◌, List, subst, ⊎_elim, arith}
use Rattle.std.specs.Array.{IsElementAt, IsFromFnResultFrom}
use Rattle.std.specs.Fn.{Called}
use Rattle.std.proofs.lemmas.Bool.{cases_eq}
use denote.Param.Members.{Mut}

module _ {F B : Type 0} (g : Mut F (ℕ × Unit {0}) B) (f : F) (h : ℕ → B) (ys : List B) (calls : (i : ℕ) (y : B) (q : F) → Called g f (i, tt) y q → (q ≡ f) × (y ≡ h i)) where
  pub made_at : (i n : ℕ) (p : F) → p ≡ f → IsFromFnResultFrom g p ys i n → (k : ℕ) → i ≤ k → k < i + n → IsElementAt ys k (h k)
  made_at i zero p same run k low high = absurd (omega arith)
  made_at i (suc n) p same run k low high =
      let here = calls i run.1 run.0 (subst (λ r. Called g r (i, tt) run.1 run.0) same run.3) in
      ⊎_elim
      (λ (e : i ≡ k). subst (λ j. IsElementAt ys j (h j)) e (subst (IsElementAt ys i) here.1 run.2))
      (λ (ne : i ≡ k → ⊥). made_at (i + 1) n run.0 here.0 run.4 k (omega arith) (omega arith))
      (cases_eq i k)
