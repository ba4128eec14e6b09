-- Reasons one after another: none of them holds, or the first that does. Assumes nothing.
use Rattle.std.proofs.Common.{◌≡◌, ℕ, zero, suc, ◌+◌, ◌<◌, ◌≤◌, List, [], ◌∷◌, ◌++◌, Some, None, Option, subst, inl, inr, arith}
use Rattle.std.proofs.lemmas.Bool.{cases_eq}
use Rattle.terms.specs.Refusals.{Reason, Settles, Silent, Speaks, Told, from_on, or_else}

pub silent_both : (rs qs : List Reason) → Silent rs → Silent qs → Silent (rs ++ qs)
silent_both [] qs a b = b
silent_both (r ∷ rs) qs a b = (a.0, silent_both rs qs a.1 b)

pub silent_parts : (rs qs : List Reason) → Silent (rs ++ qs) → Silent rs × Silent qs
silent_parts [] qs a = (tt, a)
silent_parts (r ∷ rs) qs a = let p = silent_parts rs qs a.1 in ((a.0, p.0), p.1)

-- over places: each is silent
pub silent_on : (g : ℕ → List Reason) (k i : ℕ) → ((j : ℕ) → i ≤ j → j < i + k → Silent (g j)) → Silent (from_on g i k)
silent_on g zero i each = tt
silent_on g (suc k) i each = silent_both (g i) (from_on g (suc i) k) (each i (omega arith) (omega arith)) (silent_on g k (suc i) (λ j l h. each j (omega arith) (omega arith)))

pub silent_at : (g : ℕ → List Reason) (k i : ℕ) → Silent (from_on g i k) → (j : ℕ) → i ≤ j → j < i + k → Silent (g j)
silent_at g zero i a j l h = absurd (omega arith)
silent_at g (suc k) i a j l h =
    let p = silent_parts (g i) (from_on g (suc i) k) a in
    elim (cases_eq i j) as (λ _. Silent (g j)) [
      | inl e ↦ here e p.0
      | inr n ↦ silent_at g k (suc i) p.1 j (omega arith) (omega arith)
    ]
  where
    here : i ≡ j → Silent (g i) → Silent (g j)
    here e b = subst (λ (x : ℕ). Silent (g x)) e b

-- a first reason that holds, and none that does
pub speaks_not : (rs : List Reason) (t : Told) → Speaks rs t → Silent rs → ⊥
speaks_not [] t s q = s
speaks_not (r ∷ rs) t (inl s) q = q.0 s.0
speaks_not (r ∷ rs) t (inr s) q = speaks_not rs t s.1 q.1

-- reasons after reasons that settle something
pub settles_both : (rs qs : List Reason) (o p : Option Told) → Settles rs o → Settles qs p → Settles (rs ++ qs) (or_else o p)
settles_both [] qs None p a b = b
settles_both [] qs (Some t) p a b = absurd a
settles_both (r ∷ rs) qs None p a b = go p (settles_both rs qs None p a.1 b)
  where
    go : (p : Option Told) → Settles (rs ++ qs) p → Settles (r ∷ (rs ++ qs)) p
    go None s = (a.0, s)
    go (Some t) s = inr (a.0, s)
settles_both (r ∷ rs) qs (Some t) p (inl s) b = inl s
settles_both (r ∷ rs) qs (Some t) p (inr s) b = inr (s.0, settles_both rs qs (Some t) p s.1 b)
