-- What the tests of an action are about, and what it leaves behind, in words. Assumes nothing.
use Rattle.std.specs.Prelude.{◌≡◌, ℕ, ◌≤◌, true, false, Decides, ◌≢◌}
use Rattle.terms.specs.declared.work.Work.TheVariants.{Move, PickUp, Deliver}
use Rattle.plan.specs.Plan.{Action, Ends, Runs, Starts, Touches, carry_after, delivers, end_column, ends, picks, runs, shares, starts}

-- a column is one of both actions'
abbrev pub Shares : Action → Action → Type 0
Shares a b = (c : ℕ) × Touches a c × Touches b c

pub record TestsOf (a : Action) : Type 0 where
  pub running : (t : ℕ) → Decides (runs t a) (Runs a t)
  pub starting : (t c : ℕ) → Decides (starts t c a) (Starts a t c)
  pub ending : (t c : ℕ) → Decides (ends t c a) (Ends a t c)
  pub delivering : (t c : ℕ) → Decides (delivers t c a) ((a.work ≡ Deliver) × (a.to ≡ c) × (a.end ≤ t))
  pub picking : (t c : ℕ) → Decides (picks t c a) ((a.work ≡ PickUp) × (a.to ≡ c) × (a.end ≤ t))
  pub sharing : (b : Action) → Decides (shares a b) (Shares a b)
  -- a move ends at its other column, all else where it began; a pick up ends with a block, a deliver without, all else as it began
  pub moves_over : a.work ≡ Move → end_column a ≡ a.to
  pub stays : (a.work ≢ Move) → end_column a ≡ a.from
  pub picks_up : a.work ≡ PickUp → carry_after a ≡ true
  pub lays_down : a.work ≡ Deliver → carry_after a ≡ false
  pub keeps_load : (a.work ≢ PickUp) → (a.work ≢ Deliver) → carry_after a ≡ a.carry
