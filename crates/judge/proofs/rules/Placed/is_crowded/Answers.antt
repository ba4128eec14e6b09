use Rattle.std.proofs.Common.{count_by, ap, arith}
use Rattle.std.proofs.lemmas.Grind.{common_steps}
use Rattle.plan.specs.Plan.{runs}
use Rattle.plan.specs.View.{action_of, plan_of}
use Rattle.judge.proofs.Recent.{crowd_recent}
use Rattle.judge.proofs.rules.Placed.is_crowded.Goals as goal

pub returns : goal.returns
returns c =
    let above = c.args.self.now.above.now in
    let a = action_of c.args.self.now.action.now in
    let crowd = crowd_recent (plan_of above.list.items) above.past.count above.passed a c.requires c.args.self.now.action.now.span.ordered in
    let same = ap (count_by (runs a.start)) c.recent.ensures in
    grind (arith, common_steps)
