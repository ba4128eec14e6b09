-- The columns of a site after a tick, and after columns are given new states. Assumes nothing.
use Rattle.std.proofs.Common.{◌≡◌, ℕ, zero, suc, ◌<◌, ◌≢◌, ◌⊎◌, [], ◌∷◌, length, replicate, sym, refl, ap, ◌∙◌, subst, inl, inr, arith, length-set, get_or-set_other, get_or-set_same}
use Rattle.std.proofs.lemmas.Bool.{cases_eq}
use Rattle.gate.specs.declared.column.Column.{Column}
use Rattle.gate.specs.declared.column.State.{State}
use Rattle.gate.specs.Column.{column, fresh}
use Rattle.gate.specs.Scene.{Columns, at, put, state_at}
use Rattle.gate.specs.Scene.{height_at as height_in}
use Rattle.plan.specs.Plan.{Action, Touches}
use Rattle.play.specs.Shown.{shown}

pub at_opened : (n c : ℕ) → at (replicate n fresh) c ≡ fresh
at_opened zero c = refl
at_opened (suc n) zero = refl
at_opened (suc n) (suc c) = at_opened n c

pub put_height : (xs : Columns) (c : ℕ) (z : State) (d : ℕ) → height_in (put xs c z) d ≡ height_in xs d
put_height [] c z d = refl
put_height (y ∷ xs) zero z zero = refl
put_height (y ∷ xs) zero z (suc d) = refl
put_height (y ∷ xs) (suc c) z zero = refl
put_height (y ∷ xs) (suc c) z (suc d) = put_height xs c z d

pub put_same : (xs : Columns) (c : ℕ) (z : State) → c < length xs → state_at (put xs c z) c ≡ z
put_same xs c z l = ap (λ (y : Column). y.state) (get_or-set_same xs c (column (height_in xs c) z) fresh l)

pub put_other : (xs : Columns) (c : ℕ) (z : State) (d : ℕ) → d ≢ c → state_at (put xs c z) d ≡ state_at xs d
put_other xs c z d n = ap (λ (y : Column). y.state) (get_or-set_other xs c d (column (height_in xs c) z) fresh n)

pub put_length : (xs : Columns) (c : ℕ) (z : State) → length (put xs c z) ≡ length xs
put_length xs c z = length-set xs c (column (height_in xs c) z)

pub touches_or_not : (a : Action) (c : ℕ) → Touches a c ⊎ (Touches a c → ⊥)
touches_or_not a c =
    elim (cases_eq a.from c) [
      | inl e ↦ inl (inl e)
      | inr n ↦ elim (cases_eq a.to c) [ inl e ↦ inl (inr e) | inr o ↦ inr (λ w. elim w [ inl e ↦ n e | inr e ↦ o e ]) ]
    ]

-- the columns of the action show that it runs, all else is as before
pub record Placed (a : Action) (t : ℕ) (xs ys : Columns) : Type 0 where
  pub size : length ys ≡ length xs
  pub heights : (c : ℕ) → height_in ys c ≡ height_in xs c
  pub here : (c : ℕ) → Touches a c → state_at ys c ≡ shown a t c
  pub there : (c : ℕ) → (Touches a c → ⊥) → state_at ys c ≡ state_at xs c

module _ (a : Action) (t : ℕ) (xs : Columns) where
  -- what holds of the columns from and to holds of every column of the action
  both : (P : ℕ → Type 0) → P a.from → P a.to → (c : ℕ) → Touches a c → P c
  both P f o c (inl e) = subst P e f
  both P f o c (inr e) = subst P e o

  only : (P : ℕ → Type 0) → a.to ≡ a.from → P a.from → (c : ℕ) → Touches a c → P c
  only P e f = both P f (subst P (sym e) f)

  pub placed_none : a.to ≡ a.from → state_at xs a.from ≡ shown a t a.from → Placed a t xs xs
  placed_none o e =
      record { size = refl; heights = λ c. refl; here = only (λ c. state_at xs c ≡ shown a t c) o e; there = λ c n. refl }

  pub placed_one : (z : State) → a.from < length xs → a.to ≡ a.from → z ≡ shown a t a.from → Placed a t xs (put xs a.from z)
  placed_one z l o e =
      record {
        size = put_length xs a.from z;
        heights = put_height xs a.from z;
        here = only (λ c. state_at (put xs a.from z) c ≡ shown a t c) o (put_same xs a.from z l ∙ e);
        there = λ c n. put_other xs a.from z c (λ q. n (inl (sym q)));
      }

  pub placed_two : (y z : State) → a.from < length xs → a.to < length xs → a.from ≢ a.to → y ≡ shown a t a.from → z ≡ shown a t a.to
      → Placed a t xs (put (put xs a.from y) a.to z)
  placed_two y z l k n e f =
      let ys : Columns = put xs a.from y in
      record {
        size = put_length ys a.to z ∙ put_length xs a.from y;
        heights = λ c. put_height ys a.to z c ∙ put_height xs a.from y c;
        here = both (λ c. state_at (put ys a.to z) c ≡ shown a t c)
            (put_other ys a.to z a.from n ∙ put_same xs a.from y l ∙ e)
            (put_same ys a.to z (omega (arith, put_length xs a.from y)) ∙ f);
        there = λ c n. put_other ys a.to z c (λ q. n (inr (sym q))) ∙ put_other xs a.from y c (λ q. n (inl (sym q)));
      }
