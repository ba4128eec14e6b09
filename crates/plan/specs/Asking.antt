-- What clauses read of what a line asks for. Assumes nothing.
use Rattle.std.specs.Prelude.{ℕ}
use Rattle.terms.specs.declared.work.Work.{Work}
use Rattle.plan.specs.declared.asked.Asked.{Asked}
use Rattle.plan.specs.Plan.{Action}

-- a work, the columns from and to, and their heights
pub record Wanted : Type 0 where
  pub work : Work
  pub from : ℕ
  pub to : ℕ
  pub from_height : ℕ
  pub to_height : ℕ

abbrev pub asked_of : Asked → Wanted
asked_of a =
    record { work = a.work; from = a.from.column; to = a.to.column; from_height = a.from.height; to_height = a.to.height }

abbrev pub asked_in : Action → Wanted
asked_in a = record { work = a.work; from = a.from; to = a.to; from_height = a.from_height; to_height = a.to_height }
