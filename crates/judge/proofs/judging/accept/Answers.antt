use Rattle.std.proofs.Common.{ap, ◌∙◌, vec_items}
use Rattle.plan.specs.Plan.{makespan}
use Rattle.plan.specs.View.{plan_of}
use Rattle.judge.proofs.Figured.{figured}
use Rattle.judge.proofs.judging.accept.Goals as goal

pub returns-clause-computed : goal.returns-clause-computed
returns-clause-computed c =
    record {
      makespan_so = c.latest_end-makespan.ensures ∙ ap (λ xs. makespan (plan_of xs)) c.as_slice-plan.ensures.value;
      costs_so = c.costs-costs.ensures;
      most_so = c.args.actions.busiest;
    }

pub returns-clause-figures : goal.returns-clause-figures
returns-clause-figures c =
    figured (plan_of (vec_items c.args.actions.list)) c.latest_end-makespan.result c.costs-costs.result c.args.actions.most (returns-clause-computed c)
