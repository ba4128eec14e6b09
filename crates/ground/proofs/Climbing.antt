-- The links of a column rise where the list of links does. Assumes nothing.
use Rattle.std.proofs.Common.{◌≡◌, ℕ, suc, ◌<◌, ◌≤◌, Bool, true, false, cond, eqb, List, [], ◌∷◌, ◌++◌, refl, ⊎_elim, arith}
use Rattle.std.specs.List.{flat_map}
use Rattle.std.proofs.lemmas.Bool.{eqb-true}
use Rattle.ground.specs.Listing.{Link, ascends}
use Rattle.ground.specs.Table.{other}
use Rattle.ground.proofs.Ordered.{FirstLink, first_link}
use Rattle.ground.specs.Rises.{Rising}

module _ (n c : ℕ) where
  -- the least that a link of c above `before` can lead to
  record From (before : Link) (b : ℕ) : Type 0 where
    pub near : before.0 < c → b ≤ suc before.0
    pub far : before.0 < c → before.1 < c → b ≤ before.0
    pub here : before.0 ≡ c → b ≤ suc before.1

  -- one link, and what is known of those after it
  step : (before : Link) (b : ℕ) (k : Link) (ks : List Link) → FirstLink n before k ks → From before b → ((a : ℕ) → From k a → Rising a (flat_map (other c) ks)) → (p q : Bool) → eqb k.1 c ≡ p → eqb k.0 c ≡ q → Rising b (cond p (k.0 ∷ []) (cond q (k.1 ∷ []) []) ++ flat_map (other c) ks)
  step before b k ks first f later true q e d =
      let at : k.1 ≡ c = eqb-true k.1 c e in
      let less : k.0 < k.1 = first.lower in (
        ⊎_elim
            (λ (u : before.0 < k.0). omega (arith, f.near (omega arith)))
            (λ u. let lt : before.1 < c = omega (arith, u.1) in omega (arith, u.0, f.far (omega (arith, u.0)) lt))
            first.upward,
        later (suc k.0) (record { near = λ _. omega arith; far = λ _ lt. absurd (omega arith); here = λ same. absurd (omega arith) }),
      )
  step before b k ks first f later false true e d =
      let at : k.0 ≡ c = eqb-true k.0 c d in
      let less : k.0 < k.1 = first.lower in (
        ⊎_elim
            (λ (u : before.0 < k.0). omega (arith, f.near (omega arith)))
            (λ u. omega (arith, u.0, u.1, f.here (omega (arith, u.0))))
            first.upward,
        later (suc k.1) (record { near = λ lt. absurd (omega arith); far = λ lt _. absurd (omega arith); here = λ same. omega arith }),
      )
  step before b k ks first f later false false e d =
      let less : k.0 < k.1 = first.lower in
      later b
      (⊎_elim
      (λ (u : before.0 < k.0). record {
        near = λ lt. omega (arith, f.near (omega arith));
        far = λ lt _. omega (arith, f.near (omega arith));
        here = λ same. omega (arith, f.near (omega arith));
      })
      (λ u. record {
        near = λ lt. omega (arith, u.0, f.near (omega (arith, u.0)));
        far = λ lt mt. omega (arith, u.0, f.far (omega (arith, u.0)) (omega (arith, u.1)));
        here = λ same. omega (arith, u.0, u.1, f.here (omega (arith, u.0)));
      })
      first.upward)

  climbs : (before : Link) (b : ℕ) (ks : List Link) → ascends n before ks ≡ true → From before b → Rising b (flat_map (other c) ks)
  climbs before b [] h f = tt
  climbs before b (k ∷ ks) h f =
      let first = first_link n before k ks h in
      step before b k ks first f (λ a g. climbs k a ks first.later g) (eqb k.1 c) (eqb k.0 c) refl refl

  pub rises : (ks : List Link) → ascends n (0, 0) ks ≡ true → Rising 0 (flat_map (other c) ks)
  rises ks h = climbs (0, 0) 0 ks h (record { near = λ _. omega arith; far = λ _ _. omega arith; here = λ _. omega arith })
