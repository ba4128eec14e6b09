-- What clauses read of a job that was judged. Assumes nothing.
use Rattle.std.specs.Prelude.{◌≡◌, ℕ, List, [], ◌∷◌, Some, None, Option}
use Rattle.terms.specs.Refusals.{Told}
use Rattle.terms.specs.View.{settings_of}
use Rattle.ground.specs.View.{square_of}
use Rattle.gate.specs.Scene.{Scene, opened}
use Rattle.undertaking.specs.Runs.{Reply}
use Rattle.sheet.specs.View.{records_in}
use Rattle.judge.specs.Verdict.{Accepts, Keeps}
use Rattle.job.specs.declared.opened.Job.{Job}
use Rattle.job.specs.declared.opened.Judged.{Judged}
use Rattle.job.specs.Jobs.{order, sheet_in}
use Rattle.job.specs.Replies.{ground_of, order_site}

-- the site of a job as it opens
abbrev pub site_of : Job → Scene
site_of j = opened (square_of j.ground) (settings_of j.settings)

-- the site and the plan are those of the input
pub record Judges (input : List ℕ) (j : Judged) : Type 0 where
  pub site : site_of j.job ≡ order_site (order input)
  pub ground : square_of j.job.ground ≡ ground_of (order input)
  pub keeps : Keeps (square_of j.job.ground) (settings_of j.job.settings) (sheet_in input)
  pub accepts : Accepts (records_in (sheet_in input)) j.plan

-- the refusal of one call, if it was refused
abbrev pub refused_by : Reply → Option Told
refused_by Reply.granted = None
refused_by (Reply.refused t) = Some t
refused_by (Reply.named order) = None

abbrev pub first_refusal : List Reply → Option Told
first_refusal [] = None
first_refusal (r ∷ rs) = refused_by r
