-- What is undertaken of every site that was opened and only called, by any of the eight calls. Assumes nothing.
use Rattle.std.specs.Prelude.{◌≡◌, ℕ, ◌+◌, ◌≤◌, ◌↔◌, List, ◌++◌}
use Rattle.terms.specs.Durations.{SiteSettings}
use Rattle.terms.specs.Refusals.{Silent}
use Rattle.ground.specs.Meaning.{Meaning}
use Rattle.gate.specs.declared.call.Call.{Call}
use Rattle.gate.specs.Scene.{Scene, blocks_carried, blocks_standing, opened, relief}
use Rattle.undertaking.specs.Runs.{Reply, brought_by, building_of, out_by, replies, run, tally, toil_of}
use Rattle.undertaking.specs.Obeying.{Empty, Holds, Obeyed, Toll}
use Rattle.gate.specs.Time.{Quiet, after_ticks}
use Rattle.undertaking.specs.Lasting.{Lasts}
use Rattle.undertaking.specs.Undertaking.{Bounds, Reads, Undertaking}
use Rattle.sheet.specs.Gathered.{IsSheet}
use Rattle.sheet.specs.View.{records_in}
use Rattle.plan.specs.Plan.{Action}
use Rattle.plan.specs.Rules.{Rules}
use Rattle.judge.specs.Reasons.{judging_reasons}
use Rattle.judge.specs.Verdict.{Keeps, sheet_plan, sheet_targets}
use Rattle.play.specs.Play.{Fresh, play_on}
use Rattle.play.specs.Stands.{Comes}
use Rattle.service.specs.Deeds.{AllRelate, Deed, calls_by_all, replies_to, runs}
use Rattle.service.specs.Lasting.{LastsThrough}

-- every sheet that the rules accept for this ground and these settings, played on the site v where it is fresh
pub record PlaysSheets (m : Meaning) (s : SiteSettings) (v : Scene) : Type 0 where
  -- it is accepted by the rules of the whole plan exactly where judging has no reason to refuse it
  pub unrefused : (sheet : List ℕ) → Keeps m s sheet ↔ Silent (judging_reasons m s sheet)
  -- its lines are that sheet written out, and its plan and targets are what they come to
  pub written : (sheet : List ℕ) → Keeps m s sheet → IsSheet sheet (records_in sheet)
  -- its plan is stopped where it first strands a robot, and nowhere else, and otherwise ends with its targets
  pub comes : Fresh v → (sheet : List ℕ) → Keeps m s sheet → Comes m s (sheet_plan sheet) (sheet_targets sheet) (play_on (sheet_plan sheet) v)

-- of the deeds from the opening, their answers, and the site v after them
pub record Whole (m : Meaning) (s : SiteSettings) (deeds : List Deed) (answers : List Reply) (v : Scene) : Type 0 where
  pub is_run : v ≡ runs (opened m s) deeds
  pub answered : answers ≡ replies_to (opened m s) deeds
  pub does : AllRelate (opened m s) deeds answers v
  -- deeds come to the calls of the gate that they make
  pub comes_to : (w : Scene) (more : List Deed) → runs w more ≡ run w (calls_by_all w more)
  -- and after each of those, also amid a play, all holds that is undertaken of calls of the gate
  pub amid : (before after : List Call) → before ++ after ≡ calls_by_all (opened m s) deeds
      → Undertaking m s before (replies (opened m s) before) (run (opened m s) before)
  pub lasts : Lasts v
  pub lasts_through : LastsThrough v
  pub reads : Reads v
  pub bounds : Bounds v
  pub ends : (n : ℕ) × Quiet (after_ticks n v).columns
  pub clears : (n : ℕ) → Quiet (after_ticks n v).columns
      → (t : ℕ) × (end : Scene) × Toll m (relief (after_ticks n v)) (after_ticks n v).columns t × Obeyed (after_ticks n v) t end × Empty end.columns
  -- granted moves and leaves of plays count, and so do their granted lays and lifts
  pub least : (n t : ℕ) → Quiet (after_ticks n v).columns → Toll m (relief (after_ticks n v)) (after_ticks n v).columns t
      → (more : List Deed) → Empty (runs (after_ticks n v) more).columns
      → tally building_of (after_ticks n v) (calls_by_all (after_ticks n v) more) ≡ 0
      → t ≤ tally toil_of (after_ticks n v) (calls_by_all (after_ticks n v) more)
  pub apart : (r q c : ℕ) → Holds v.columns r c → Holds v.columns q c → r ≡ q
  pub blocks : tally brought_by (opened m s) (calls_by_all (opened m s) deeds)
      ≡ tally out_by (opened m s) (calls_by_all (opened m s) deeds) + (blocks_standing m v.columns + blocks_carried m v.columns)
  -- wherever among the deeds the site is fresh, a plan that keeps the rules is stopped, if it is played there, where it first strands
  -- a robot, and nowhere else
  pub plays : (before after : List Deed) → before ++ after ≡ deeds → Fresh (runs (opened m s) before)
      → (plan : List Action) (targets : ℕ → ℕ) → Rules m s plan targets → Comes m s plan targets (play_on plan (runs (opened m s) before))
  -- and so it is with the plan of every accepted sheet
  pub plays_sheets : (before after : List Deed) → before ++ after ≡ deeds → PlaysSheets m s (runs (opened m s) before)
