use Rattle.std.proofs.Common.{List, subst, rules, tests}
use Rattle.std.proofs.lemmas.Iterator.{YieldsList-from_map, YieldsList-from_slice}
use Rattle.std.proofs.lemmas.Iterator.Consumers.{YieldsList-at, YieldsList-from_filter, min_from_yields_List}
use Rattle.plan.specs.Plan.{Action, end_column}
use Rattle.plan.specs.View.{action_of, plan_of}
use Rattle.judge.specs.Finding.{Lowest, left_between}
use Rattle.judge.specs.Judging.{latest_start}
use Rattle.judge.proofs.Lowest.{lowest_found}
use Rattle.judge.proofs.Recent.{lowest_left}
use Rattle.judge.proofs.rules.Placed.left_standing.Goals as goal

pub returns : goal.returns
returns c =
    let above = c.args.self.now.above.now in
    let plan = plan_of above.list.items in
    let start = (action_of c.args.self.now.action.now).start in
    let xs = c.recent-recent.result.now in
    let p = left_between (plan_of xs) (latest_start plan) start in
    lowest_left plan above.past.count above.passed start c.min.result
    (subst (λ (ys : List Action). Lowest (left_between ys (latest_start plan) start) ys c.min.result) c.recent-recent.ensures
    (lowest_found p xs c.min.result
    (min_from_yields_List c.map.result c.min.result c.min.ensures.ran (YieldsList-from_map _ (λ x. end_column (action_of x))
    (YieldsList-at c.map.ensures.source (YieldsList-from_filter _ (λ x. p (action_of x)) (YieldsList-from_slice xs cc) c.filter.ensures.closure (λ x b q k. search (rules, tests))))
    c.map.ensures.closure (λ x r q k. search (rules, tests))))))
