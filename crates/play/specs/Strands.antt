-- Which action of a plan would leave a robot no way home, read off the plan. Assumes nothing.
use Rattle.std.specs.Prelude.{◌≡◌, ℕ, ◌<◌, ◌≤◌, true, ◌||◌, List, length, ◌==◌}
use Rattle.ground.specs.Meaning.{Meaning}
use Rattle.ways.specs.Way.{NoWay, Relief}
use Rattle.plan.specs.Plan.{Action, Ends, Runs, height_at, line}
use Rattle.play.specs.Shown.{NoneStarts, changes_height, changing}

-- by the first k actions a robot is at column c at the time t: it acts from there, or has just ended there and is not carried on
pub data RobotAt (plan : List Action) (k t c : ℕ) : Type 0 where
  acts : (i : ℕ) → i < k → Runs (line plan i) t → (line plan i).from ≡ c → RobotAt plan k t c
  rests : (i : ℕ) → i < k → Ends (line plan i) t c → NoneStarts plan k t c → RobotAt plan k t c

-- how the ground lies at the time t by the first k actions, with column d changing too
abbrev pub relief_at : List Action → ℕ → ℕ → ℕ → Relief
relief_at plan k t d = record { heights = height_at plan t; changing = λ c. (c == d) || changing plan k t c }

-- action i, a pick up or a deliver, leaves a robot at column c no way home: by the actions above it, at its start
pub record Strands (m : Meaning) (plan : List Action) (i c : ℕ) : Type 0 where
  pub there : i < length plan
  pub changes : changes_height (line plan i).work ≡ true
  pub robot : RobotAt plan i (line plan i).start c
  pub no_way : NoWay m (relief_at plan i (line plan i).start (line plan i).to) c

-- column c is the lowest such column of action i
pub record StrandsLowest (m : Meaning) (plan : List Action) (i c : ℕ) : Type 0 where
  pub strands : Strands m plan i c
  pub lowest : (d : ℕ) → Strands m plan i d → c ≤ d
