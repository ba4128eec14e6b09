-- What is undertaken over all eight calls, from what is undertaken over the calls of the gate that they make. Assumes nothing.
use Rattle.std.proofs.Common.{◌≡◌, ℕ, ◌+◌, ◌≤◌, List, sym, refl, subst}
use Rattle.terms.specs.Durations.{SiteSettings}
use Rattle.ground.specs.Meaning.{Lawful, Meaning}
use Rattle.gate.specs.declared.call.Call.{Call}
use Rattle.gate.specs.Scene.{Scene, blocks_carried, blocks_standing, opened, relief}
use Rattle.undertaking.specs.Runs.{brought_by, building_of, out_by, replies, run, tally, toil_of}
use Rattle.undertaking.specs.Obeying.{Empty, Holds, Obeyed, Toll}
use Rattle.gate.specs.Time.{Quiet, after_ticks}
use Rattle.undertaking.specs.Lasting.{Lasts}
use Rattle.undertaking.specs.Undertaking.{Bounds, Reads, Undertaking}
use Rattle.undertaking.proofs.Plain.{Proper, opening}
use Rattle.undertaking.proofs.Calls.{kept_opening}
use Rattle.undertaking.proofs.Scenes.{opened_scene}
use Rattle.undertaking.proofs.Undertaken.{undertaken}
use Rattle.service.specs.Deeds.{AllRelate, Deed, replies_to, runs, calls_by_all}
use Rattle.service.specs.Whole.{Whole}
use Rattle.service.proofs.Unfolding.{runs_run}
use Rattle.service.proofs.Related.{all_relate}
use Rattle.service.proofs.Coming.{plays_after, sheets_after}
use Rattle.service.proofs.Lasting.{lasts_through}

module _ (m : Meaning) (s : SiteSettings) (law : Lawful m) (ok : Proper s) (ds : List Deed) where
  is : runs (opened m s) ds ≡ run (opened m s) (calls_by_all (opened m s) ds)
  is = runs_run ds (opened m s)

  under : Undertaking m s (calls_by_all (opened m s) ds) (replies (opened m s) (calls_by_all (opened m s) ds)) (run (opened m s) (calls_by_all (opened m s) ds))
  under = undertaken m s law ok (calls_by_all (opened m s) ds)

  -- what holds after the calls holds after the deeds
  of_calls : (P : Scene → Type 0) → P (run (opened m s) (calls_by_all (opened m s) ds)) → P (runs (opened m s) ds)
  of_calls P h = subst P (sym is) h

  abbrev Clearing : Scene → Type 0
  Clearing v = (n : ℕ) → Quiet (after_ticks n v).columns
      → (t : ℕ) × (end : Scene) × Toll m (relief (after_ticks n v)) (after_ticks n v).columns t × Obeyed (after_ticks n v) t end × Empty end.columns

  abbrev FewestCalls : Scene → Type 0
  FewestCalls v = (n t : ℕ) → Quiet (after_ticks n v).columns → Toll m (relief (after_ticks n v)) (after_ticks n v).columns t
      → (more : List Call) → Empty (run (after_ticks n v) more).columns → tally building_of (after_ticks n v) more ≡ 0
      → t ≤ tally toil_of (after_ticks n v) more

  abbrev Balanced : Scene → Type 0
  Balanced v = tally brought_by (opened m s) (calls_by_all (opened m s) ds)
      ≡ tally out_by (opened m s) (calls_by_all (opened m s) ds) + (blocks_standing m v.columns + blocks_carried m v.columns)

  relate : AllRelate (opened m s) ds (replies_to (opened m s) ds) (runs (opened m s) ds)
  relate =
      let P : Scene → Type 0 = λ v. AllRelate v ds (replies_to v ds) (runs v ds) in
      subst P (sym (opened_scene m s)) (all_relate m s law ok ds (opening m) (kept_opening m s ok))

  fewest : FewestCalls (runs (opened m s) ds)
  fewest = of_calls FewestCalls under.least

  pub whole : Whole m s ds (replies_to (opened m s) ds) (runs (opened m s) ds)
  whole =
      record {
        is_run = refl;
        answered = refl;
        does = relate;
        comes_to = λ w more. runs_run more w;
        amid = λ before after e. undertaken m s law ok before;
        lasts = of_calls Lasts under.lasts;
        lasts_through = lasts_through (runs (opened m s) ds) (of_calls Lasts under.lasts);
        reads = of_calls Reads under.reads;
        bounds = of_calls Bounds under.bounds;
        ends = of_calls (λ v. (n : ℕ) × Quiet (after_ticks n v).columns) under.ends;
        clears = of_calls Clearing under.clears;
        least = λ n t q l more h z.
            let w = after_ticks n (runs (opened m s) ds) in
            let E : Scene → Type 0 = λ v. Empty v.columns in
            fewest n t q l (calls_by_all w more) (subst E (runs_run more w) h) z;
        apart = of_calls (λ v. (r q c : ℕ) → Holds v.columns r c → Holds v.columns q c → r ≡ q) under.apart;
        blocks = of_calls Balanced under.blocks;
        plays = λ before rest e. plays_after m s law ok before;
        plays_sheets = λ before rest e. sheets_after m s law ok before;
      }
