-- Obeying recall: make the named call, tick until nothing runs, recall again, until no robot is there. Assumes nothing.
use Rattle.std.specs.Prelude.{◌≡◌, ℕ, suc, true, false, cond, Some, None, Ok, Err}
use Rattle.terms.specs.Refusals.{told}
use Rattle.terms.specs.declared.refusal.Rule.TheVariants.{NoRobot}
use Rattle.ground.specs.Meaning.{Meaning}
use Rattle.ways.specs.Way.{Relief, Fewest}
use Rattle.gate.specs.declared.call.Call.{Call}
use Rattle.gate.specs.declared.call.Call.TheVariants.{Move, Leave, Tick}
use Rattle.gate.specs.declared.column.Part.{Part}
use Rattle.gate.specs.declared.column.State.TheVariants.{Busy}
use Rattle.gate.specs.declared.order.Next.{Next}
use Rattle.gate.specs.declared.order.Next.TheVariants.{Leaves, Moves}
use Rattle.gate.specs.declared.order.Order.{Order}
use Rattle.gate.specs.Column.{other, robot}
use Rattle.gate.specs.Scene.{Columns, Scene, state_at, sum_below}
use Rattle.gate.specs.Gate.{refusal, step}
use Rattle.gate.specs.Recall.{recall}
use Rattle.gate.specs.Time.{Quiet}

-- a robot is at column c
abbrev pub Robot : Columns → ℕ → Type 0
Robot xs c = robot (state_at xs c) ≡ true

abbrev pub Empty : Columns → Type 0
Empty xs = (c : ℕ) → robot (state_at xs c) ≡ false

-- the robot at r holds its own column and, while an action runs, the action's other column
pub data Holds (xs : Columns) (r : ℕ) : ℕ → Type 0 where
  own : Robot xs r → Holds xs r r
  also : {p : Part} {n c : ℕ} → Robot xs r → state_at xs r ≡ Busy p n → other p ≡ Some c → Holds xs r c

-- t is the sum over the robots of their fewest steps home and one more, as the ground lies
pub record Toll (m : Meaning) (r : Relief) (xs : Columns) (t : ℕ) : Type 0 where
  pub fewest : ℕ → ℕ
  pub are_fewest : (c : ℕ) → Robot xs c → Fewest m r c (fewest c)
  pub is_sum : t ≡ sum_below (λ c. cond (robot (state_at xs c)) (suc (fewest c)) 0) m.columns

-- the call that an order names
abbrev pub call_of : ℕ → Next → Call
call_of c Leaves = Leave c
call_of c (Moves d) = Move c d

-- ticks until nothing runs, and not one more
pub data Rested : Scene → Scene → Type 0 where
  quiet : {v : Scene} → Quiet v.columns → Rested v v
  tick : {v w : Scene} → (Quiet v.columns → ⊥) → Rested (step v Tick) w → Rested v w

-- obeying recall from v takes n calls, all granted, and ends at the last site
pub data Obeyed : Scene → ℕ → Scene → Type 0 where
  done : {v : Scene} → recall v ≡ Err (told NoRobot 0 0) → Obeyed v 0 v
  next : {v w z : Scene} {n : ℕ} (order : Order) → recall v ≡ Ok order → order.left ≡ suc n → refusal v (call_of order.column order.next) ≡ None
      → Rested (step v (call_of order.column order.next)) w → Obeyed w n z → Obeyed v (suc n) z
