-- What every call keeps: soundness, and beside it what the proof of soundness needs. Assumes nothing.
use Rattle.std.proofs.Common.{◌≡◌, ℕ, ◌<◌, ◌≤◌, Bool, true, cond, leb, length, Some, None, Option}
use Rattle.gate.specs.Column.{other, facing, built, robot}
use Rattle.gate.specs.Scene.{Columns, height_at, state_at, sum_below, robots}
use Rattle.gate.specs.declared.column.Part.{Part}
use Rattle.gate.specs.declared.column.Part.TheVariants.{Entering, Leaving, Departing, Arriving, Laying, Rising, Lifting, Sinking}
use Rattle.gate.specs.declared.column.State.{State}
use Rattle.gate.specs.declared.column.State.TheVariants.{Free, Standing, Busy}
use Rattle.ground.specs.Meaning.{Meaning}
use Rattle.terms.specs.Durations.{SiteSettings}
use Rattle.undertaking.proofs.Plain.{relief}
use Rattle.ways.specs.Way.{Near, Way}

-- the height when what runs has ended
abbrev pub later : State → ℕ → ℕ
later Free h = h
later (Standing b) h = h
later (Busy p n) h = built p h

pub record Fits (m : Meaning) (s : SiteSettings) (c h : ℕ) (t : State) : Type 0 where
  pub low : h < s.levels
  pub later_low : later t h < s.levels
  pub flat : m.border c ≡ true → h ≡ 0
  pub later_flat : m.border c ≡ true → later t h ≡ 0
  pub timed : (p : Part) (n : ℕ) → t ≡ Busy p n → 1 ≤ n
  pub sunk : (f n : ℕ) → t ≡ Busy (Sinking f) n → 1 ≤ h

-- column d faces column c, which has n ticks left of its part p
pub record Facing (m : Meaning) (xs : Columns) (c d : ℕ) (p : Part) (n : ℕ) : Type 0 where
  pub state : state_at xs d ≡ Busy (facing c p) n
  pub link : m.linked c d ≡ true
  pub near : Near (height_at xs c) (height_at xs d)

-- the kinds of action that have two columns; the side with the robot gives, the other takes
pub data Kind : Type 0 where
  moves : Bool → Kind
  lays : Kind
  lifts : Kind

abbrev pub gives : Part → Option Kind
gives (Entering b) = None
gives (Leaving b) = None
gives (Departing b d) = Some (Kind.moves b)
gives (Arriving b d) = None
gives (Laying d) = Some Kind.lays
gives (Rising d) = None
gives (Lifting d) = Some Kind.lifts
gives (Sinking d) = None

abbrev pub takes : Part → Option Kind
takes (Entering b) = None
takes (Leaving b) = None
takes (Departing b d) = None
takes (Arriving b d) = Some (Kind.moves b)
takes (Laying d) = None
takes (Rising d) = Some Kind.lays
takes (Lifting d) = None
takes (Sinking d) = Some Kind.lifts

abbrev pub worth : (Kind → ℕ) → Bool → Option Kind → ℕ
worth q t None = 0
worth q t (Some k) = cond t (q k) 0

-- what a column with at least n ticks left is worth, each kind weighed by q
abbrev pub share : (Kind → ℕ) → ℕ → (Part → Option Kind) → State → ℕ
share q n side Free = 0
share q n side (Standing b) = 0
share q n side (Busy p k) = worth q (leb n k) (side p)

abbrev pub shares : Meaning → (Kind → ℕ) → ℕ → (Part → Option Kind) → Columns → ℕ
shares m q n side xs = sum_below (λ c. share q n side (state_at xs c)) m.columns

pub record Kept (m : Meaning) (s : SiteSettings) (xs : Columns) : Type 0 where
  pub long : length xs ≡ m.columns
  pub fits : (c : ℕ) → Fits m s c (height_at xs c) (state_at xs c)
  pub faces : (c d : ℕ) (p : Part) (n : ℕ) → state_at xs c ≡ Busy p n → other p ≡ Some d → Facing m xs c d p n
  pub ways : (c : ℕ) → robot (state_at xs c) ≡ true → (n : ℕ) × Way m (relief xs) c n
  pub not_full : robots m xs ≤ s.robots
  pub pairs : (q : Kind → ℕ) (n : ℕ) → shares m q n gives xs ≡ shares m q n takes xs
