-- The gate: what each call asks, in rising order of refusals, and what a grant does. Assumes nothing.
use Rattle.std.specs.Prelude.{ℕ, suc, Bool, true, false, not, ◌&&◌, ◌||◌, List, [], ◌∷◌, ◌++◌, is_some, Some, None, Option, ◌==◌, nat_le, nat_lt, slice_set}
use Rattle.std.specs.Option.{unwrap_or}
use Rattle.terms.specs.Durations.{SiteSettings, duration_of}
use Rattle.terms.specs.Refusals.{Told, told, first_of}
use Rattle.terms.specs.declared.refusal.Rule.{Rule}
use Rattle.terms.specs.declared.refusal.Rule.TheVariants.{NoColumn, NoStandingRobot, WrongLoad, NoLink, ColumnHeld, WrongHeights, SiteFull, NoWayHome}
use Rattle.terms.specs.declared.work.Work.TheVariants.{Entry as EntryWork, Leave as LeaveWork, Move as MoveWork, PickUp, Deliver}
use Rattle.ground.specs.Meaning.{Meaning}
use Rattle.ways.specs.Way.{Relief}
use Rattle.ways.specs.Table.{near, first_below, steps}
use Rattle.gate.specs.declared.call.Call.{Call}
use Rattle.gate.specs.declared.call.Call.TheVariants.{Enter, Move, Lay, Lift, Leave, Tick, Recall}
use Rattle.gate.specs.declared.column.Part.{Part}
use Rattle.gate.specs.declared.column.Part.TheVariants.{Entering, Leaving, Departing, Laying, Lifting}
use Rattle.gate.specs.declared.column.State.TheVariants.{Busy}
use Rattle.gate.specs.Column.{held, stands, robot, carries}
use Rattle.gate.specs.Scene.{Columns, Scene, height_at, state_at, with_columns, with_marks, put, begin, tick_all, renewed_marks, tried, robots}

abbrev pub Test : Type 0
Test = Bool × Told

abbrev pub when : Bool → Rule → Test
when b rule = (b, told rule 0 0)

abbrev pub off : Meaning → ℕ → Bool
off m c = not (nat_lt c m.columns)

-- a robot is at c, and no steps home are told of it
abbrev pub stranded_by : Columns → (ℕ → Option ℕ) → ℕ → Bool
stranded_by xs steps_of c = robot (state_at xs c) && not (is_some (steps_of c))

-- the lowest column at which a robot has no way home, as the ground lies
abbrev pub lowest_stranded : Meaning → Columns → Relief → Option ℕ
lowest_stranded m xs r = first_below (stranded_by xs (steps m r)) m.columns

abbrev pub strands : Option ℕ → Test
strands lowest = (is_some lowest, told NoWayHome 0 (unwrap_or lowest 0))

-- whether the load that a robot has is not the load that is asked for
abbrev pub misloaded : Bool → Bool → Bool
misloaded true carried = not carried
misloaded false carried = carried

-- what a lay, with a block, and a lift, without one, ask alike
abbrev pub change_tests : Meaning → Columns → Bool → ℕ → ℕ → List Test
change_tests m xs block c d =
    (when (off m c || off m d) NoColumn)
    ∷ (when (not (stands (state_at xs c))) NoStandingRobot)
    ∷ (when (misloaded block (carries (state_at xs c))) WrongLoad)
    ∷ (when (not (m.linked c d) || m.border d) NoLink)
    ∷ (when (held (state_at xs d)) ColumnHeld) ∷ []

-- the tests of a lay and of a lift but for the last, which asks for a way home
abbrev pub lay_tests : Meaning → SiteSettings → Columns → ℕ → ℕ → List Test
lay_tests m s xs c d =
    change_tests m xs true c d
    ++ (when (not (height_at xs c == height_at xs d) || nat_le s.levels (suc (height_at xs d))) WrongHeights) ∷ []

abbrev pub lift_tests : Meaning → Columns → ℕ → ℕ → List Test
lift_tests m xs c d = change_tests m xs false c d ++ (when (not (height_at xs d == suc (height_at xs c))) WrongHeights) ∷ []

-- the tests of each call; `lies` is how the ground lies with the column changing that it is given
abbrev pub tests : Meaning → SiteSettings → Columns → (ℕ → Relief) → Call → List Test
tests m s xs lies (Enter c block) =
    (when (off m c) NoColumn)
    ∷ (when (not (m.border c)) NoLink)
    ∷ (when (held (state_at xs c)) ColumnHeld)
    ∷ (when (nat_le s.robots (robots m xs)) SiteFull) ∷ []
tests m s xs lies (Move c d) =
    (when (off m c || off m d) NoColumn)
    ∷ (when (not (stands (state_at xs c))) NoStandingRobot)
    ∷ (when (not (m.linked c d)) NoLink)
    ∷ (when (held (state_at xs d)) ColumnHeld)
    ∷ (when (not (near (height_at xs c) (height_at xs d))) WrongHeights) ∷ []
tests m s xs lies (Lay c d) = lay_tests m s xs c d ++ strands (lowest_stranded m xs (lies d)) ∷ []
tests m s xs lies (Lift c d) = lift_tests m xs c d ++ strands (lowest_stranded m xs (lies d)) ∷ []
tests m s xs lies (Leave c) =
    (when (off m c) NoColumn) ∷ (when (not (stands (state_at xs c))) NoStandingRobot) ∷ (when (not (m.border c)) NoLink) ∷ []
tests m s xs lies Tick = []
tests m s xs lies Recall = []

-- the refusal of a call, or none where it is granted
abbrev pub refusal : Scene → Call → Option Told
refusal v k = first_of (tests v.meaning v.settings v.columns (tried v) k)

-- how long the action of a call takes, of a robot with or without a block
abbrev pub duration : SiteSettings → Call → Bool → ℕ
duration s (Enter c block) carried = duration_of s.times EntryWork block
duration s (Move c d) carried = duration_of s.times MoveWork carried
duration s (Lay c d) carried = duration_of s.times Deliver carried
duration s (Lift c d) carried = duration_of s.times PickUp carried
duration s (Leave c) carried = duration_of s.times LeaveWork carried
duration s Tick carried = 0
duration s Recall carried = 0

-- the columns after a grant
abbrev pub granted : SiteSettings → Columns → Call → Columns
granted s xs (Enter c block) = put xs c (Busy (Entering block) (duration s (Enter c block) block))
granted s xs (Move c d) = begin xs c d (Departing (carries (state_at xs c)) d) (duration s (Move c d) (carries (state_at xs c)))
granted s xs (Lay c d) = begin xs c d (Laying d) (duration s (Lay c d) (carries (state_at xs c)))
granted s xs (Lift c d) = begin xs c d (Lifting d) (duration s (Lift c d) (carries (state_at xs c)))
granted s xs (Leave c) = put xs c (Busy (Leaving (carries (state_at xs c))) (duration s (Leave c) (carries (state_at xs c))))
granted s xs Tick = tick_all xs
granted s xs Recall = xs

-- the marks after a grant: the column of a lay or lift is changing
abbrev pub granted_marks : Meaning → Columns → List ℕ → Call → List ℕ
granted_marks m xs ms (Enter c block) = ms
granted_marks m xs ms (Move c d) = ms
granted_marks m xs ms (Lay c d) = slice_set ms d 1
granted_marks m xs ms (Lift c d) = slice_set ms d 1
granted_marks m xs ms (Leave c) = ms
granted_marks m xs ms Tick = renewed_marks m.columns (tick_all xs) ms
granted_marks m xs ms Recall = ms

abbrev pub grant : Scene → Call → Scene
grant v k =
    record {
      meaning = v.meaning;
      settings = v.settings;
      columns = granted v.settings v.columns k;
      marks = granted_marks v.meaning v.columns v.marks k;
    }

-- the site as a change of column d begins: both columns have their parts, and d is marked
abbrev pub changing : Scene → ℕ → Part → ℕ → Part → ℕ → Scene
changing v c here d there n = with_columns (with_marks v (slice_set v.marks d 1)) (put (put v.columns c (Busy here n)) d (Busy there n))

abbrev pub settle : {X : Type 0} → Option Told → X → X → X
settle None new old = new
settle (Some t) new old = old

-- a refusal leaves the site as it is
abbrev pub step : Scene → Call → Scene
step v k = settle (refusal v k) (grant v k) v
