use Rattle.std.proofs.Common.{refl, ◌∙◌, rules, tests}
use Rattle.std.proofs.lemmas.Iterator.{YieldsList-from_map, YieldsList-from_slice}
use Rattle.std.proofs.lemmas.Iterator.Consumers.{max_from_yields_List}
use Rattle.plan.specs.Plan.{makespan}
use Rattle.plan.specs.View.{action_of}
use Rattle.judge.proofs.Searches.{largest_is}
use Rattle.judge.proofs.figures.latest_end.Goals as goal

pub returns : goal.returns
returns c =
    let xs = c.args.actions.now in
    let ran = max_from_yields_List c.map.result c.max.result c.max.ensures.ran (YieldsList-from_map _ (λ x. (action_of x).end) (YieldsList-from_slice xs cc) c.map.ensures.closure (λ x r q k. search (rules, tests))) in
    c.unwrap_or.ensures ∙ largest_is makespan (λ a. a.end) refl (λ _ _. refl) action_of xs c.max.result ran
