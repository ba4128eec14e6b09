-- The passing of time: so many ticks, and ticks until nothing runs. Assumes nothing.
use Rattle.std.specs.Prelude.{◌≡◌, ℕ, zero, suc, ◌<◌, max, false, [], ◌∷◌}
use Rattle.gate.specs.declared.call.Call.TheVariants.{Tick}
use Rattle.gate.specs.declared.column.State.{State}
use Rattle.gate.specs.declared.column.State.TheVariants.{Free, Standing, Busy}
use Rattle.gate.specs.Column.{runs}
use Rattle.gate.specs.Scene.{Columns, Scene, state_at}
use Rattle.gate.specs.Gate.{step}

-- n ticks later
abbrev pub after_ticks : ℕ → Scene → Scene
after_ticks zero v = v
after_ticks (suc n) v = after_ticks n (step v Tick)

-- nothing runs
abbrev pub Quiet : Columns → Type 0
Quiet xs = (c : ℕ) → runs (state_at xs c) ≡ false

-- the ticks until a column has ended what it does: an action that runs takes one at least
abbrev pub left : State → ℕ
left Free = 0
left (Standing block) = 0
left (Busy part n) = max 1 n

-- the most ticks that are left at any column
abbrev pub longest : Columns → ℕ
longest [] = 0
longest (x ∷ xs) = max (left x.state) (longest xs)

-- ticks until nothing runs
abbrev pub settled : Scene → Scene
settled v = after_ticks (longest v.columns) v

-- they end: nothing runs then, and before the last of them something does
pub record Settles (v : Scene) : Type 0 where
  pub quiet : Quiet (settled v).columns
  pub no_sooner : (n : ℕ) → n < longest v.columns → Quiet (after_ticks n v).columns → ⊥
