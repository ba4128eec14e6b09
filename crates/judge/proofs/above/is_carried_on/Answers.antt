use Rattle.std.proofs.Common.{◌∙◌, rules, tests}
use Rattle.std.proofs.lemmas.Iterator.{YieldsList-from_slice}
use Rattle.std.proofs.lemmas.Iterator.Search.{any_from_yields_List}
use Rattle.plan.specs.Plan.{starts}
use Rattle.plan.specs.View.{action_of}
use Rattle.judge.proofs.Searches.{some_is}
use Rattle.judge.proofs.above.is_carried_on.Goals as goal

pub returns : goal.returns
returns c =
    let p = starts c.args.time c.args.column in
    any_from_yields_List (λ x. p (action_of x)) _ _ _ c.any.ensures.ran (YieldsList-from_slice c.args.actions.now cc) (λ x b q k. search (rules, tests))
    ∙ some_is action_of p c.args.actions.now
