-- What a site is at a time, by the actions of a plan that have begun. Assumes nothing.
use Rattle.std.specs.Prelude.{◌≡◌, ℕ, ◌-◌, ◌<◌, Bool, true, false, ◌&&◌, List, length, take, ◌==◌, slice_index}
use Rattle.terms.specs.Durations.{SiteSettings}
use Rattle.terms.specs.declared.work.Work.{Work}
use Rattle.terms.specs.declared.work.Work.TheVariants.{Entry, Leave, Wait, Move, PickUp, Deliver}
use Rattle.ground.specs.Meaning.{Meaning}
use Rattle.gate.specs.declared.column.Part.TheVariants.{Entering, Leaving, Departing, Arriving, Laying, Rising, Lifting, Sinking}
use Rattle.gate.specs.declared.column.State.{State}
use Rattle.gate.specs.declared.column.State.TheVariants.{Free, Standing, Busy}
use Rattle.gate.specs.Scene.{Scene, one_if, state_at}
use Rattle.gate.specs.Scene.{height_at as height_in}
use Rattle.plan.specs.Plan.{Action, Ends, Runs, Starts, Touches, carry_after, height_at, line, runs, some_of}

-- the state of a column of an action that runs, with n ticks left; at_from: the column is the one that the robot is at
abbrev pub shown_by : Work → Bool → ℕ → ℕ → ℕ → Bool → State
shown_by Entry b f o n at_from = Busy (Entering b) n
shown_by Leave b f o n at_from = Busy (Leaving b) n
shown_by Wait b f o n at_from = Standing b
shown_by Move b f o n true = Busy (Departing b o) n
shown_by Move b f o n false = Busy (Arriving b f) n
shown_by PickUp b f o n true = Busy (Lifting o) n
shown_by PickUp b f o n false = Busy (Sinking f) n
shown_by Deliver b f o n true = Busy (Laying o) n
shown_by Deliver b f o n false = Busy (Rising f) n

-- the state of column c, one of the action's, at a time t at which it runs
abbrev pub shown : Action → ℕ → ℕ → State
shown a t c = shown_by a.work a.carry a.from a.to (a.end - t) (a.from == c)

-- of the first k actions none starts at the time t from the column c
abbrev pub NoneStarts : List Action → ℕ → ℕ → ℕ → Type 0
NoneStarts plan k t c = (j : ℕ) → j < k → Starts (line plan j) t c → ⊥

-- why column c is held at the time t: one of the first k actions runs there, or ended there now and none of them carries it on
pub data Holder (plan : List Action) (k t c : ℕ) : Type 0 where
  by_running : (i : ℕ) → i < k → Runs (line plan i) t → Touches (line plan i) c → Holder plan k t c
  by_ended : (i : ℕ) → i < k → Ends (line plan i) t c → NoneStarts plan k t c → Holder plan k t c

-- a pick up or a deliver
abbrev pub changes_height : Work → Bool
changes_height Entry = false
changes_height Leave = false
changes_height Wait = false
changes_height Move = false
changes_height PickUp = true
changes_height Deliver = true

-- the action runs at the time t, and changes the height of the column c
abbrev pub changes_at : ℕ → ℕ → Action → Bool
changes_at t c a = changes_height a.work && (runs t a && a.to == c)

-- of the first k actions one does
abbrev pub changing : List Action → ℕ → ℕ → ℕ → Bool
changing plan k t c = some_of (changes_at t c) (take k plan)

-- the site that the first k actions of a plan describe at the time t
pub record Described (m : Meaning) (s : SiteSettings) (plan : List Action) (k t : ℕ) (v : Scene) : Type 0 where
  pub meaning : v.meaning ≡ m
  pub settings : v.settings ≡ s
  pub size : length v.columns ≡ m.columns
  pub room : length v.marks ≡ 256
  pub running : (i c : ℕ) → i < k → Runs (line plan i) t → Touches (line plan i) c → state_at v.columns c ≡ shown (line plan i) t c
  pub standing : (i c : ℕ) → i < k → Ends (line plan i) t c → NoneStarts plan k t c
      → state_at v.columns c ≡ Standing (carry_after (line plan i))
  pub free : (c : ℕ) → (Holder plan k t c → ⊥) → state_at v.columns c ≡ Free
  pub heights : (c : ℕ) → height_in v.columns c ≡ height_at plan t c
  pub marks : (c : ℕ) → slice_index v.marks c ≡ one_if (changing plan k t c)
