-- The law of durations where any of the eight calls come between; the ticks of plays count. Assumes nothing.
use Rattle.std.specs.Prelude.{◌≡◌, ℕ, suc, ◌-◌, ◌<◌, Bool, List, [], ◌∷◌, ◌++◌, None}
use Rattle.gate.specs.declared.call.Call.{Call}
use Rattle.gate.specs.declared.call.Call.TheVariants.{Tick}
use Rattle.gate.specs.declared.column.State.TheVariants.{Standing}
use Rattle.gate.specs.Scene.{Scene, height_at, state_at}
use Rattle.gate.specs.Gate.{refusal, step}
use Rattle.undertaking.specs.Runs.{ticks}
use Rattle.undertaking.specs.Lasting.{Ended, Is, Unasked, UnderWay, lasting}
use Rattle.service.specs.Deeds.{Deed, calls_by_all, runs}

-- of a site and all that may be done from it
pub record LastsThrough (v : Scene) : Type 0 where
  pub runs_on : (k : Call) → refusal v k ≡ None → (more : List Deed) → ticks (calls_by_all (step v k) more) < lasting v k
      → UnderWay v.columns k (runs (step v k) more).columns (lasting v k - ticks (calls_by_all (step v k) more))
  pub ends_so : (k : Call) → refusal v k ≡ None → (more : List Deed) → suc (ticks (calls_by_all (step v k) more)) ≡ lasting v k
      → Ended v.columns k (runs (step v k) (more ++ Deed.call Tick ∷ [])).columns
  pub stands_on : (c : ℕ) (block : Bool) → state_at v.columns c ≡ Standing block → (more : List Deed) → Unasked c v (calls_by_all v more)
      → Is (runs v more).columns c (height_at v.columns c) (Standing block)
