-- What judging answers, in words: when a sheet is accepted, and what an accepted plan is. Assumes nothing.
use Rattle.std.specs.Prelude.{◌≡◌, ℕ, List}
use Rattle.terms.specs.Durations.{SiteSettings}
use Rattle.terms.specs.Refusals.{Silent}
use Rattle.ground.specs.Meaning.{Meaning}
use Rattle.sheet.specs.Reasons.{reading_reasons}
use Rattle.sheet.specs.View.{Records, records_in}
use Rattle.plan.specs.Plan.{Action}
use Rattle.plan.specs.Rules.{SheetRules, target_of, written_plan}
use Rattle.judge.specs.Figures.{Computed, Figures}
use Rattle.judge.specs.View.{Acceptance}

-- the plan of a sheet, and its targets
abbrev pub sheet_plan : List ℕ → List Action
sheet_plan sheet = written_plan (records_in sheet).acts

abbrev pub sheet_targets : List ℕ → ℕ → ℕ
sheet_targets sheet = target_of (records_in sheet).targets

-- the sheet reads, and its lines keep every rule
pub record Keeps (m : Meaning) (s : SiteSettings) (sheet : List ℕ) : Type 0 where
  pub reads : Silent (reading_reasons m s sheet)
  pub rules : SheetRules m s (records_in sheet)

-- the plan, the targets and the figures of a sheet's records: the figures by their definitions, and in words
pub record Accepts (r : Records) (a : Acceptance) : Type 0 where
  pub plan : a.plan ≡ written_plan r.acts
  pub targets : a.targets ≡ r.targets
  pub computed : Computed a.plan a.makespan a.costs a.most
  pub figures : Figures a.plan a.makespan a.costs a.most
