-- Which refusal a listed ground is answered with, from what its tests say. Assumes nothing.
use Rattle.std.proofs.Common.{◌≡◌, ℕ, Bool, true, false, cond, not, List, Some, None, Option, refl, ap, ◌∙◌, ⊎_elim}
use Rattle.std.proofs.lemmas.Bool.{cases_Bool}
use Rattle.terms.specs.declared.refusal.Rule.TheVariants.{BorderList, LinkOrder, SeventhLink}
use Rattle.terms.specs.Refusals.{Told, told}
use Rattle.ground.specs.Listing.{Crowded, Link, ascends, border_fits, crowded, listing_refusal}
use Rattle.ground.proofs.Ordered.{decides_crowded}

-- what three tests give, in their order
abbrev pick : Bool → Bool → Bool → Option Told
pick a b c = cond (not a) (Some (told BorderList 0 0)) (cond (not b) (Some (told LinkOrder 0 0)) (cond c (Some (told SeventhLink 0 0)) None))

module _ (n : ℕ) (border : List ℕ) (ks : List Link) where
  is : (a b c : Bool) → border_fits n border ≡ a → ascends n (0, 0) ks ≡ b → crowded n ks ≡ c → listing_refusal n border ks ≡ pick a b c
  is a b c e f g = ap (λ x. pick x (ascends n (0, 0) ks) (crowded n ks)) e ∙ ap (λ x. pick a x (crowded n ks)) f ∙ ap (pick a b) g

  pub refuse_border : border_fits n border ≡ false → listing_refusal n border ks ≡ Some (told BorderList 0 0)
  refuse_border e = is false _ _ e refl refl

  pub refuse_order : border_fits n border ≡ true → ascends n (0, 0) ks ≡ false → listing_refusal n border ks ≡ Some (told LinkOrder 0 0)
  refuse_order e f = is true false _ e f refl

  pub refuse_crowd : border_fits n border ≡ true → ascends n (0, 0) ks ≡ true → Crowded n ks → listing_refusal n border ks ≡ Some (told SeventhLink 0 0)
  refuse_crowd e f g = is true true true e f ((decides_crowded n ks).1 g)

  pub refuse_none : border_fits n border ≡ true → ascends n (0, 0) ks ≡ true → (Crowded n ks → ⊥) → listing_refusal n border ks ≡ None
  refuse_none e f g =
      is true true false e f (⊎_elim (λ t. absurd (g ((decides_crowded n ks).0 t))) (λ r. r) (cases_Bool (crowded n ks)))
