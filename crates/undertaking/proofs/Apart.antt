-- Two robots that hold one column are the same: partners name each other. Assumes nothing.
use Rattle.std.proofs.Common.{◌≡◌, ℕ, true, false, ◌⊎◌, Some, sym, refl, ap, ◌∙◌, inl, inr}
use Rattle.std.proofs.lemmas.Bool.{both_ways}
use Rattle.gate.specs.Column.{other, facing, robot_in, robot}
use Rattle.gate.specs.Scene.{Columns, state_at}
use Rattle.gate.specs.declared.column.Part.{Part}
use Rattle.gate.specs.declared.column.Part.TheVariants.{Entering, Leaving, Departing, Arriving, Laying, Rising, Lifting, Sinking}
use Rattle.gate.specs.declared.column.State.TheVariants.{Busy}
use Rattle.ground.specs.Meaning.{Meaning}
use Rattle.terms.specs.Durations.{SiteSettings}
use Rattle.undertaking.proofs.Plain.{Sound}
use Rattle.undertaking.specs.Obeying.{Robot, Holds}
use Rattle.undertaking.specs.Obeying.Holds.{own, also}
use Rattle.ways.proofs.Firsts.{none≢some}

-- of two parts that face each other one has the robot
one_robot : (p : Part) (c d : ℕ) → other p ≡ Some d → robot_in p ≡ true → robot_in (facing c p) ≡ false
one_robot (Entering b) c d o r = absurd (none≢some o)
one_robot (Leaving b) c d o r = absurd (none≢some o)
one_robot (Departing b e) c d o r = refl
one_robot (Arriving b e) c d o r = sym r
one_robot (Laying e) c d o r = refl
one_robot (Rising e) c d o r = sym r
one_robot (Lifting e) c d o r = refl
one_robot (Sinking e) c d o r = sym r

names_back : (p : Part) (c d : ℕ) → other p ≡ Some d → other (facing c p) ≡ Some c
names_back (Entering b) c d o = absurd (none≢some o)
names_back (Leaving b) c d o = absurd (none≢some o)
names_back (Departing b e) c d o = refl
names_back (Arriving b e) c d o = refl
names_back (Laying e) c d o = refl
names_back (Rising e) c d o = refl
names_back (Lifting e) c d o = refl
names_back (Sinking e) c d o = refl

module _ (m : Meaning) (s : SiteSettings) (xs : Columns) (k : Sound m s xs) where
  How : ℕ → ℕ → Type 0
  How r c = (c ≡ r) ⊎ ((p : Part) × (n : ℕ) × (state_at xs r ≡ Busy p n) × (other p ≡ Some c))

  how : (r : ℕ) {c : ℕ} → Holds xs r c → Robot xs r × How r c
  unfolding How
  how r (own a) = (a, inl refl)
  how r (also {p} {n} a e o) = (a, inr (p, n, e, o))

  -- no robot is at a column that another robot holds for its action
  alone : (r q c : ℕ) → Robot xs r → Robot xs q → c ≡ r → (p : Part) (n : ℕ) → state_at xs q ≡ Busy p n → other p ≡ Some c → r ≡ q
  alone r q c a b i p n e o =
      absurd (both_ways (robot_in (facing q p)) (one_robot p q c o (sym (ap robot e) ∙ b))
      (sym (ap robot (k.partners q c p n e o)) ∙ ap (λ x. robot (state_at xs x)) i ∙ a))

  same : (r q c : ℕ) → Robot xs r → Robot xs q → How r c → How q c → r ≡ q
  unfolding How
  same r q c a b (inl i) (inl j) = sym i ∙ j
  same r q c a b (inl i) (inr (p, n, e, o)) = alone r q c a b i p n e o
  same r q c a b (inr (p, n, e, o)) (inl j) = sym (alone q r c b a j p n e o)
  same r q c a b (inr (p, n, e, o)) (inr (p', n', e', o')) =
      cc (k.partners r c p n e o, k.partners q c p' n' e' o', names_back p r c o, names_back p' q c o')

  pub apart : (r q c : ℕ) → Holds xs r c → Holds xs q c → r ≡ q
  apart r q c h g = let x = how r h in let y = how q g in same r q c x.0 y.0 x.1 y.1
