-- A column of the site: what its state says, and what one tick makes of it. Assumes nothing.
use Rattle.std.specs.Prelude.{ℕ, zero, suc, pred, ◌+◌, min, Bool, true, false, Some, None, Option}
use Rattle.gate.specs.declared.column.Column.{Column}
use Rattle.gate.specs.declared.column.Part.{Part}
use Rattle.gate.specs.declared.column.Part.TheVariants.{Entering, Leaving, Departing, Arriving, Laying, Rising, Lifting, Sinking}
use Rattle.gate.specs.declared.column.State.{State}
use Rattle.gate.specs.declared.column.State.TheVariants.{Free, Standing, Busy}

abbrev pub column : ℕ → State → Column
column height state = record { height = height; state = state }

abbrev pub fresh : Column
fresh = column 0 Free

-- the action's other column
abbrev pub other : Part → Option ℕ
other (Entering block) = None
other (Leaving block) = None
other (Departing block to) = Some to
other (Arriving block from) = Some from
other (Laying to) = Some to
other (Rising from) = Some from
other (Lifting to) = Some to
other (Sinking from) = Some from

-- the part that the other column has, where this one is column c
abbrev pub facing : ℕ → Part → Part
facing c (Entering block) = Entering block
facing c (Leaving block) = Leaving block
facing c (Departing block to) = Arriving block c
facing c (Arriving block from) = Departing block c
facing c (Laying to) = Rising c
facing c (Rising from) = Laying c
facing c (Lifting to) = Sinking c
facing c (Sinking from) = Lifting c

-- a robot is at the column
abbrev pub robot_in : Part → Bool
robot_in (Entering block) = true
robot_in (Leaving block) = true
robot_in (Departing block to) = true
robot_in (Arriving block from) = false
robot_in (Laying to) = true
robot_in (Rising from) = false
robot_in (Lifting to) = true
robot_in (Sinking from) = false

-- that robot has a block
abbrev pub block_in : Part → Bool
block_in (Entering block) = block
block_in (Leaving block) = block
block_in (Departing block to) = block
block_in (Arriving block from) = false
block_in (Laying to) = true
block_in (Rising from) = false
block_in (Lifting to) = false
block_in (Sinking from) = false

-- the column's height is about to change
abbrev pub changes_in : Part → Bool
changes_in (Entering block) = false
changes_in (Leaving block) = false
changes_in (Departing block to) = false
changes_in (Arriving block from) = false
changes_in (Laying to) = false
changes_in (Rising from) = true
changes_in (Lifting to) = false
changes_in (Sinking from) = true

-- the robot that stands there at the action's end, with a block or without
abbrev pub stays : Part → Option Bool
stays (Entering block) = Some block
stays (Leaving block) = None
stays (Departing block to) = None
stays (Arriving block from) = Some block
stays (Laying to) = Some false
stays (Rising from) = None
stays (Lifting to) = Some true
stays (Sinking from) = None

-- the height at the action's end: a lay makes the column one higher, a lift one lower; a byte holds no more than 255
abbrev pub built : Part → ℕ → ℕ
built (Entering block) h = h
built (Leaving block) h = h
built (Departing block to) h = h
built (Arriving block from) h = h
built (Laying to) h = h
built (Rising from) h = min (h + 1) 255
built (Lifting to) h = h
built (Sinking from) h = pred h

-- the block that leaves the site at the action's end
abbrev pub taken_out : Part → Bool
taken_out (Entering block) = false
taken_out (Leaving block) = block
taken_out (Departing block to) = false
taken_out (Arriving block from) = false
taken_out (Laying to) = false
taken_out (Rising from) = false
taken_out (Lifting to) = false
taken_out (Sinking from) = false

-- of a state
abbrev pub held : State → Bool
held Free = false
held (Standing block) = true
held (Busy part left) = true

abbrev pub runs : State → Bool
runs Free = false
runs (Standing block) = false
runs (Busy part left) = true

abbrev pub stands : State → Bool
stands Free = false
stands (Standing block) = true
stands (Busy part left) = false

abbrev pub robot : State → Bool
robot Free = false
robot (Standing block) = true
robot (Busy part left) = robot_in part

abbrev pub carries : State → Bool
carries Free = false
carries (Standing block) = block
carries (Busy part left) = block_in part

abbrev pub changes : State → Bool
changes Free = false
changes (Standing block) = false
changes (Busy part left) = changes_in part

abbrev pub rest : Option Bool → State
rest None = Free
rest (Some block) = Standing block

-- what a tick makes of something with n ticks left: its end, or it goes on with one less
abbrev pub passed : {X : Type 0} → ℕ → X → (ℕ → X) → X
passed zero end on = end
passed (suc zero) end on = end
passed (suc (suc n)) end on = on (suc n)

abbrev pub next : State → State
next Free = Free
next (Standing block) = Standing block
next (Busy part left) = passed left (rest (stays part)) (Busy part)

abbrev pub next_height : State → ℕ → ℕ
next_height Free h = h
next_height (Standing block) h = h
next_height (Busy part left) h = passed left (built part h) (λ _. h)

-- a block is carried out at this tick
abbrev pub goes_out : State → Bool
goes_out Free = false
goes_out (Standing block) = false
goes_out (Busy part left) = passed left (taken_out part) (λ _. false)

abbrev pub ticked : Column → Column
ticked x = column (next_height x.state x.height) (next x.state)
