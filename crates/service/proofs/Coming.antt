-- Where a site is fresh after deeds, a plan that keeps the rules comes to what its lines say. Assumes nothing.
use Rattle.std.proofs.Common.{◌≡◌, ℕ, true, false, List, sym, ap, ◌∙◌, subst, arith}
use Rattle.terms.specs.Durations.{SiteSettings}
use Rattle.terms.specs.declared.work.Work.TheVariants.{Entry, Leave, Wait, Move, PickUp, Deliver}
use Rattle.ground.specs.Meaning.{Lawful, Meaning}
use Rattle.gate.specs.Scene.{Columns, Scene, opened}
use Rattle.undertaking.specs.Runs.{run}
use Rattle.undertaking.proofs.Plain.{Proper, opening}
use Rattle.undertaking.proofs.Plain.{run as run_columns}
use Rattle.undertaking.proofs.Kept.{Kept}
use Rattle.undertaking.proofs.Calls.{kept_opening, kept_run}
use Rattle.undertaking.proofs.Scenes.{opened_scene, run_scene, scene}
use Rattle.plan.specs.Judged.{Timed}
use Rattle.plan.specs.Plan.{Action}
use Rattle.plan.specs.Rules.{Rules}
use Rattle.play.specs.Play.{Fresh, Outcome, play_on}
use Rattle.play.specs.Stands.{Comes, Usable}
use Rattle.play.proofs.Standing.{plays_stand}
use Rattle.judge.specs.Verdict.{sheet_plan, sheet_targets}
use Rattle.sheet.proofs.Gathered.{is_sheet}
use Rattle.judge.proofs.Verdict.{keeps_reads, keeps_silent, silent_keeps}
use Rattle.service.specs.Deeds.{Deed, runs, calls_by_all}
use Rattle.service.specs.Whole.{PlaysSheets}
use Rattle.service.proofs.Unfolding.{runs_run}
use Rattle.service.proofs.Freshness.{blank_so}

timed : (s : SiteSettings) → Proper s → Timed s
timed s ok Entry b = ok.entry
timed s ok Leave b = ok.leave
timed s ok Wait b = omega arith
timed s ok Move true = ok.loaded
timed s ok Move false = ok.empty
timed s ok PickUp b = ok.pickup
timed s ok Deliver b = ok.deliver

usable : (s : SiteSettings) → Proper s → Usable s
usable s ok = record { timed = timed s ok; low = omega (arith, ok.few_levels) }

module _ (m : Meaning) (s : SiteSettings) (law : Lawful m) (ok : Proper s) where
  -- what comes of an accepted plan, of a site
  abbrev pub PlaysWell : Scene → Type 0
  PlaysWell v = Fresh v → (plan : List Action) (targets : ℕ → ℕ) → Rules m s plan targets → Comes m s plan targets (play_on plan v)

  plays_well : (xs : Columns) → Kept m s xs → PlaysWell (scene m s xs)
  plays_well xs k fresh plan targets rules =
      let v = scene m s xs in
      let C : Outcome → Type 0 = Comes m s plan targets in
      subst C (sym (plays_stand.on_fresh plan v fresh)) (plays_stand.comes v plan targets law (usable s ok) rules (blank_so m s law ok xs k fresh))

  -- after deeds, a site that is read by its columns
  unfoldable columns_after : List Deed → Columns
  columns_after ds = run_columns m s (opening m) (calls_by_all (opened m s) ds)

  kept_after : (ds : List Deed) → Kept m s (columns_after ds)
  unfolding columns_after
  kept_after ds = kept_run m s law ok (opening m) (kept_opening m s ok) (calls_by_all (opened m s) ds)

  after : (ds : List Deed) → runs (opened m s) ds ≡ scene m s (columns_after ds)
  unfolding columns_after
  after ds =
      runs_run ds (opened m s) ∙ ap (λ (v : Scene). run v (calls_by_all (opened m s) ds)) (opened_scene m s)
      ∙ run_scene m s law ok (calls_by_all (opened m s) ds) (opening m) (kept_opening m s ok)

  pub plays_after : (ds : List Deed) → PlaysWell (runs (opened m s) ds)
  plays_after ds = subst PlaysWell (sym (after ds)) (plays_well (columns_after ds) (kept_after ds))

  pub sheets_after : (ds : List Deed) → PlaysSheets m s (runs (opened m s) ds)
  sheets_after ds =
      record {
        unrefused = λ sheet. (keeps_silent m s sheet (timed s ok), silent_keeps m s sheet (timed s ok));
        written = λ sheet k. is_sheet m s sheet (keeps_reads m s sheet k);
        comes = λ fresh sheet k. plays_after ds fresh (sheet_plan sheet) (sheet_targets sheet) k.rules.rules;
      }
