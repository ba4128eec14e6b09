-- The refusals of the gate in words: of each, what has to be the case. Assumes nothing.
use Rattle.std.specs.Prelude.{◌≡◌, ℕ, suc, ◌<◌, ◌≤◌, Bool, true, false, List, [], ◌∷◌, length, Some, Option, ◌≢◌}
use Rattle.std.specs.List.{AllByRecursion}
use Rattle.terms.specs.Refusals.{Reason, Settles, Told, told}
use Rattle.terms.specs.declared.refusal.Rule.{Rule}
use Rattle.terms.specs.declared.refusal.Rule.TheVariants.{NoColumn, NoStandingRobot, WrongLoad, NoLink, ColumnHeld, WrongHeights, SiteFull, NoWayHome}
use Rattle.ground.specs.Rises.{Rising}
use Rattle.ways.specs.Way.{Near, NoWay}
use Rattle.gate.specs.declared.call.Call.{Call}
use Rattle.gate.specs.declared.call.Call.TheVariants.{Enter, Move, Lay, Lift, Leave, Tick, Recall}
use Rattle.gate.specs.declared.column.State.TheVariants.{Free, Standing}
use Rattle.gate.specs.Column.{robot, carries}
use Rattle.gate.specs.Scene.{Scene, height_at, state_at, tried}
use Rattle.gate.specs.Gate.{refusal, step}

abbrev pub OnGround : Scene → ℕ → Type 0
OnGround v c = c < v.meaning.columns

-- a robot is at the column
abbrev pub Robot : Scene → ℕ → Type 0
Robot v c = robot (state_at v.columns c) ≡ true

-- no action of the robot at the column runs
abbrev pub Stands : Scene → ℕ → Type 0
Stands v c = (block : Bool) × (state_at v.columns c ≡ Standing block)

-- that robot has a block
abbrev pub Loaded : Scene → ℕ → Type 0
Loaded v c = carries (state_at v.columns c) ≡ true

abbrev pub Held : Scene → ℕ → Type 0
Held v c = state_at v.columns c ≡ Free → ⊥

-- n different columns of the ground or more, each with a robot
pub record Crew (v : Scene) (n : ℕ) : Type 0 where
  pub columns : List ℕ
  pub different : Rising 0 columns
  pub with_robots : AllByRecursion (λ c. OnGround v c × Robot v c) columns
  pub many : n ≤ length columns

-- with column d changing too, a robot is at c and has no way home
abbrev pub Stranded : Scene → ℕ → ℕ → Type 0
Stranded v d c = OnGround v c × Robot v c × NoWay v.meaning (tried v d) c

-- wherever a column is stranded, x is, and no other is lower
abbrev pub LowestStranded : Scene → ℕ → ℕ → Type 0
LowestStranded v d x = (c : ℕ) → Stranded v d c → Stranded v d x × (x ≤ c)

abbrev pub because : Rule → Type 0 → Reason
because rule holds = record { holds = holds; tells = told rule 0 0 }

-- the reasons to refuse a call, in their order; x is the lowest stranded column
abbrev pub reasons : Scene → Call → ℕ → List Reason
reasons v (Enter c block) x =
    (because NoColumn (OnGround v c → ⊥))
    ∷ (because NoLink (v.meaning.border c ≢ true))
    ∷ (because ColumnHeld (Held v c))
    ∷ (because SiteFull (Crew v v.settings.robots)) ∷ []
reasons v (Move c d) x =
    (because NoColumn (OnGround v c × OnGround v d → ⊥))
    ∷ (because NoStandingRobot (Stands v c → ⊥))
    ∷ (because NoLink (v.meaning.linked c d ≢ true))
    ∷ (because ColumnHeld (Held v d))
    ∷ (because WrongHeights (Near (height_at v.columns c) (height_at v.columns d) → ⊥)) ∷ []
reasons v (Lay c d) x =
    (because NoColumn (OnGround v c × OnGround v d → ⊥))
    ∷ (because NoStandingRobot (Stands v c → ⊥))
    ∷ (because WrongLoad (Loaded v c → ⊥))
    ∷ (because NoLink ((v.meaning.linked c d ≡ true) × (v.meaning.border d ≡ false) → ⊥))
    ∷ (because ColumnHeld (Held v d))
    ∷ (because WrongHeights ((height_at v.columns c ≡ height_at v.columns d) × (suc (height_at v.columns d) < v.settings.levels) → ⊥))
    ∷ (record { holds = (e : ℕ) × Stranded v d e; tells = told NoWayHome 0 x }) ∷ []
reasons v (Lift c d) x =
    (because NoColumn (OnGround v c × OnGround v d → ⊥))
    ∷ (because NoStandingRobot (Stands v c → ⊥))
    ∷ (because WrongLoad (Loaded v c))
    ∷ (because NoLink ((v.meaning.linked c d ≡ true) × (v.meaning.border d ≡ false) → ⊥))
    ∷ (because ColumnHeld (Held v d))
    ∷ (because WrongHeights (height_at v.columns d ≢ suc (height_at v.columns c)))
    ∷ (record { holds = (e : ℕ) × Stranded v d e; tells = told NoWayHome 0 x }) ∷ []
reasons v (Leave c) x =
    (because NoColumn (OnGround v c → ⊥)) ∷ (because NoStandingRobot (Stands v c → ⊥)) ∷ (because NoLink (v.meaning.border c ≢ true)) ∷ []
reasons v Tick x = []
reasons v Recall x = []

-- x is what the call's detail has to be
abbrev pub Details : Scene → Call → ℕ → Type 0
Details v (Enter c block) x = Unit {0}
Details v (Move c d) x = Unit {0}
Details v (Lay c d) x = LowestStranded v d x
Details v (Lift c d) x = LowestStranded v d x
Details v (Leave c) x = Unit {0}
Details v Tick x = Unit {0}
Details v Recall x = Unit {0}

-- granted exactly where no reason holds, and otherwise refused by the first that does
pub record Decided (v : Scene) (k : Call) (o : Option Told) : Type 0 where
  pub lowest : ℕ
  pub is_lowest : Details v k lowest
  pub settles : Settles (reasons v k lowest) o

-- a call, its answer (the refusal, or none) and the site after it: by the definitions and in words
pub record Performed (v : Scene) (k : Call) (o : Option Told) (w : Scene) : Type 0 where
  pub value : o ≡ refusal v k
  pub after : w ≡ step v k
  pub words : Decided v k o
  pub unaltered : (t : Told) → o ≡ Some t → w ≡ v
