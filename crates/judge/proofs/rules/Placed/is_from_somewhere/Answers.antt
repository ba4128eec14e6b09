use Rattle.std.proofs.Common.{◌≡◌, ap, ◌∙◌, arith, rules, tests}
use Rattle.std.proofs.lemmas.Grind.{common_steps}
use Rattle.std.proofs.lemmas.Iterator.{YieldsList-from_slice}
use Rattle.std.proofs.lemmas.Iterator.Search.{any_from_yields_List}
use Rattle.plan.specs.Plan.{no_action, some_of}
use Rattle.plan.specs.View.{action_of, plan_of}
use Rattle.judge.specs.Judging.{goes_on_from}
use Rattle.judge.proofs.Recent.{none_goes_on, some_recent}
use Rattle.judge.proofs.Searches.{some_is}
use Rattle.judge.proofs.rules.Placed.is_from_somewhere.Goals as goal

pub returns-else-eq : goal.returns-else-eq
returns-else-eq c =
    let above = c.args.self.now.above.now in
    let plan = plan_of above.list.items in
    let a = action_of c.args.self.now.action.now in
    let xs = c.recent.result.now in
    let p = goes_on_from a in
    let any : c.any.result ≡ some_of p plan =
    any_from_yields_List (λ x. p (action_of x)) _ _ _ c.any.ensures.ran (YieldsList-from_slice xs cc) (λ x b q k. search (rules, tests)) ∙ some_is action_of p xs
    ∙ ap (some_of p) c.recent.ensures ∙ some_recent p no_action above.past.count plan (none_goes_on plan above.past.count above.passed a c.requires) in
    grind (arith, common_steps)
