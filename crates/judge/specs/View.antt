-- What clauses read of an accepted plan. Assumes nothing.
use Rattle.std.specs.Prelude.{ℕ, List}
use Rattle.sheet.specs.declared.target.Target.{Target}
use Rattle.plan.specs.Plan.{Action}

-- an accepted plan: its actions, its targets and its figures
pub record Acceptance : Type 0 where
  pub plan : List Action
  pub targets : List Target
  pub makespan : ℕ
  pub costs : ℕ
  pub most : ℕ
