-- Recall: the robot with the fewest steps home, what it does next, and how many actions are left. Assumes nothing.
use Rattle.std.specs.Prelude.{◌≡◌, ℕ, zero, suc, ◌≤◌, Bool, true, false, cond, List, [], ◌∷◌, Some, None, Ok, Err, Option, Result, nat_lt}
use Rattle.std.specs.Option.{unwrap_or}
use Rattle.terms.specs.Refusals.{Told, told, told_of, Reason, Silent, Speaks}
use Rattle.terms.specs.declared.refusal.Refusal.{Refusal}
use Rattle.terms.specs.declared.refusal.Rule.TheVariants.{ActionRuns, NoRobot}
use Rattle.ground.specs.Meaning.{Meaning}
use Rattle.ways.specs.Way.{Way, Fewest, Beside}
use Rattle.ways.specs.Table.{steps, nearer}
use Rattle.gate.specs.declared.order.Next.{Next}
use Rattle.gate.specs.declared.order.Next.TheVariants.{Leaves, Moves}
use Rattle.gate.specs.declared.order.Order.{Order}
use Rattle.gate.specs.Column.{robot, runs}
use Rattle.gate.specs.Scene.{Columns, Scene, height_at, state_at, relief, sum_below, any_below}
use Rattle.gate.specs.Words.{OnGround, Robot, because}

-- the steps home that are told of the robot at c
abbrev pub robot_steps : Columns → (ℕ → Option ℕ) → ℕ → Option ℕ
robot_steps xs steps_of c = cond (robot (state_at xs c)) (steps_of c) None

-- of two columns with their steps the one with fewer, the first where they have as many
abbrev pub better : Option (ℕ × ℕ) → ℕ → Option ℕ → Option (ℕ × ℕ)
better best c None = best
better None c (Some k) = Some (c, k)
better (Some p) c (Some k) = cond (nat_lt k p.1) (Some (c, k)) (Some p)

abbrev pub best_below : (ℕ → Option ℕ) → ℕ → Option (ℕ × ℕ)
best_below f zero = None
best_below f (suc n) = better (best_below f n) n (f n)

-- one more than the steps home: the actions that a robot there has still to do
abbrev pub cost_of : Option ℕ → ℕ
cost_of None = 0
cost_of (Some n) = suc n

abbrev pub toll : Meaning → Columns → (ℕ → Option ℕ) → ℕ
toll m xs steps_of = sum_below (λ c. cost_of (robot_steps xs steps_of c)) m.columns

abbrev pub next_by : Meaning → Columns → (ℕ → Option ℕ) → ℕ → ℕ → Next
next_by m xs steps_of c zero = Leaves
next_by m xs steps_of c (suc n) = Moves (unwrap_or (nearer m (height_at xs) steps_of c) 0)

abbrev pub named : Meaning → Columns → (ℕ → Option ℕ) → Option (ℕ × ℕ) → Result Order Told
named m xs steps_of None = Err (told NoRobot 0 0)
named m xs steps_of (Some p) = Ok (record { column = p.0; next = next_by m xs steps_of p.0 p.1; left = toll m xs steps_of })

abbrev pub any_runs : Meaning → Columns → Bool
any_runs m xs = any_below (λ c. runs (state_at xs c)) m.columns

abbrev pub recalled : Meaning → Columns → (ℕ → Option ℕ) → Result Order Told
recalled m xs steps_of = cond (any_runs m xs) (Err (told ActionRuns 0 0)) (named m xs steps_of (best_below (robot_steps xs steps_of) m.columns))

abbrev pub recall : Scene → Result Order Told
recall v = recalled v.meaning v.columns (steps v.meaning (relief v))

abbrev pub recall_of : Result Order Refusal → Result Order Told
recall_of (Ok order) = Ok order
recall_of (Err f) = Err (told_of f)

-- in words

abbrev pub Running : Scene → Type 0
Running v = (c : ℕ) × OnGround v c × (runs (state_at v.columns c) ≡ true)

abbrev pub Nobody : Scene → Type 0
Nobody v = (c : ℕ) → OnGround v c → Robot v c → ⊥

-- every robot has a way home
abbrev pub Homeward : Scene → Type 0
Homeward v = (c : ℕ) → OnGround v c → Robot v c → (n : ℕ) × Way v.meaning (relief v) c n

abbrev pub recall_reasons : Scene → List Reason
recall_reasons v = (because ActionRuns (Running v)) ∷ (because NoRobot (Nobody v)) ∷ []

-- what the robot at c does next, n steps from home: it leaves from the border, else it moves to the lowest column beside it that is one step nearer
abbrev pub Does : Scene → ℕ → ℕ → Next → Type 0
Does v c n Leaves = v.meaning.border c ≡ true
Does v c n (Moves d) =
    (v.meaning.border c ≡ false)
    × ((k : ℕ) × (n ≡ suc k) × Beside v.meaning (relief v) c k d × ((e : ℕ) → Beside v.meaning (relief v) c k e → d ≤ e))

pub record RightlyNamed (v : Scene) (order : Order) : Type 0 where
  pub fewest : ℕ → ℕ
  pub are_fewest : (c : ℕ) → OnGround v c → Robot v c → Fewest v.meaning (relief v) c (fewest c)
  pub on_ground : OnGround v order.column
  pub robot_there : Robot v order.column
  pub nearest : (c : ℕ) → OnGround v c → Robot v c → fewest order.column ≤ fewest c
  pub lowest : (c : ℕ) → OnGround v c → Robot v c → fewest c ≡ fewest order.column → order.column ≤ c
  pub does : Does v order.column (fewest order.column) order.next
  pub counts : order.left ≡ sum_below (λ c. cond (robot (state_at v.columns c)) (suc (fewest c)) 0) v.meaning.columns

-- refused by the first reason that holds, else the order is the right one
abbrev pub Recalled : Scene → Result Order Told → Type 0
Recalled v (Ok order) = Silent (recall_reasons v) × RightlyNamed v order
Recalled v (Err t) = Speaks (recall_reasons v) t
