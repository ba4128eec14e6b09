-- The lowest number that passes a test. Assumes nothing.
use Rattle.std.proofs.Common.{◌≡◌, ℕ, zero, suc, ◌<◌, Bool, true, false, is_some, Some, None, Decides, Option, refl, ap, arith}
use Rattle.std.proofs.lemmas.Bool.{false≢true, both_ways}
use Rattle.ways.specs.Table.{first_below}

pub none≢some : {X : Type 0} {x : X} → None ≡ Some x → ⊥
none≢some e = false≢true (ap is_some e)

module _ (p : ℕ → Bool) where
  pub first_none : (n : ℕ) → first_below p n ≡ None → (j : ℕ) → j < n → p j ≡ false
  first_none zero e j l = grind arith
  first_none (suc n) e j l = let ih = first_none n in grind arith

  pub first_some : (n k : ℕ) → first_below p n ≡ Some k → (p k ≡ true) × (k < n) × ((j : ℕ) → j < k → p j ≡ false)
  first_some zero k e = grind arith
  first_some (suc n) k e = let ih = first_some n k in grind (arith, first_none n)

  pub first_there : (n j : ℕ) → j < n → p j ≡ true → (k : ℕ) × (first_below p n ≡ Some k)
  first_there n j l e = go (first_below p n) refl
    where
      go : (o : Option ℕ) → first_below p n ≡ o → (k : ℕ) × (first_below p n ≡ Some k)
      go (Some k) q = (k, q)
      go None q = absurd (both_ways (p j) (first_none n q j l) e)

-- there is one exactly when some number passes
pub first_decides : (p : ℕ → Bool) (P : ℕ → Type 0) → ((k : ℕ) → Decides (p k) (P k)) → (n : ℕ) → Decides (is_some (first_below p n)) ((k : ℕ) × (k < n) × P k)
first_decides p P each n = (go (first_below p n) refl, λ h. let f = first_there p n h.0 h.1 ((each h.0).1 h.2) in ap is_some f.1)
  where
    go : (o : Option ℕ) → first_below p n ≡ o → is_some o ≡ true → (k : ℕ) × (k < n) × P k
    go (Some k) q e = let f = first_some p n k q in (k, f.1, (each k).0 f.0)
    go None q e = absurd (false≢true e)
