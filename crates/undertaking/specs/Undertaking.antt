-- What is undertaken of every site that was opened and only called, in the subject's words. Assumes nothing.
use Rattle.std.specs.Prelude.{◌≡◌, ℕ, ◌+◌, ◌<◌, ◌≤◌, true, ◌⊎◌, List, length, ◌≢◌}
use Rattle.std.specs.List.{AllByRecursion}
use Rattle.terms.specs.Durations.{SiteSettings}
use Rattle.ground.specs.Meaning.{Meaning}
use Rattle.ground.specs.Rises.{Rising}
use Rattle.ways.specs.Way.{Way}
use Rattle.ways.specs.View.{marked}
use Rattle.gate.specs.declared.call.Call.{Call}
use Rattle.gate.specs.declared.column.Part.TheVariants.{Laying, Lifting}
use Rattle.gate.specs.declared.column.State.TheVariants.{Free, Busy}
use Rattle.gate.specs.Scene.{Columns, Scene, height_at, state_at, relief, blocks_standing, blocks_carried, opened}
use Rattle.undertaking.specs.Runs.{Reply, run, replies, Does, tally, brought_by, out_by, toil_of, building_of}
use Rattle.undertaking.specs.Obeying.{Robot, Empty, Holds, Toll, Obeyed}
use Rattle.gate.specs.Time.{Quiet, after_ticks}
use Rattle.undertaking.specs.Lasting.{Lasts}

-- a running lay or lift has column c as its to column
abbrev pub BuiltOn : Columns → ℕ → Type 0
BuiltOn xs c = (f : ℕ) × (n : ℕ) × ((state_at xs f ≡ Busy (Laying c) n) ⊎ (state_at xs f ≡ Busy (Lifting c) n))

-- the marks and the states say what runs
pub record Reads (v : Scene) : Type 0 where
  pub marked_built : (c : ℕ) → marked v.marks c ≡ true → BuiltOn v.columns c
  pub built_marked : (c : ℕ) → BuiltOn v.columns c → marked v.marks c ≡ true
  pub held_by : (c : ℕ) → (state_at v.columns c ≢ Free) → (r : ℕ) × Holds v.columns r c
  pub holder_holds : (c r : ℕ) → Holds v.columns r c → state_at v.columns c ≢ Free

pub record Bounds (v : Scene) : Type 0 where
  pub low : (c : ℕ) → height_at v.columns c < v.settings.levels
  pub border_flat : (c : ℕ) → v.meaning.border c ≡ true → height_at v.columns c ≡ 0
  -- robots at different columns are never more than the most robots
  pub not_full : (rs : List ℕ) → Rising 0 rs → AllByRecursion (Robot v.columns) rs → length rs ≤ v.settings.robots
  pub ways_home : (c : ℕ) → Robot v.columns c → (n : ℕ) × Way v.meaning (relief v) c n

-- of the calls from the opening, their answers, and the site v after them
pub record Undertaking (m : Meaning) (s : SiteSettings) (calls : List Call) (answers : List Reply) (v : Scene) : Type 0 where
  pub is_run : v ≡ run (opened m s) calls
  pub answered : answers ≡ replies (opened m s) calls
  pub does : Does (opened m s) calls answers v
  pub lasts : Lasts v
  pub reads : Reads v
  pub bounds : Bounds v
  pub ends : (n : ℕ) × Quiet (after_ticks n v).columns
  pub clears : (n : ℕ) → Quiet (after_ticks n v).columns
      → (t : ℕ) × (end : Scene) × Toll m (relief (after_ticks n v)) (after_ticks n v).columns t × Obeyed (after_ticks n v) t end × Empty end.columns
  pub least : (n t : ℕ) → Quiet (after_ticks n v).columns → Toll m (relief (after_ticks n v)) (after_ticks n v).columns t
      → (more : List Call) → Empty (run (after_ticks n v) more).columns → tally building_of (after_ticks n v) more ≡ 0
      → t ≤ tally toil_of (after_ticks n v) more
  pub apart : (r q c : ℕ) → Holds v.columns r c → Holds v.columns q c → r ≡ q
  pub blocks : tally brought_by (opened m s) calls ≡ tally out_by (opened m s) calls + (blocks_standing m v.columns + blocks_carried m v.columns)
