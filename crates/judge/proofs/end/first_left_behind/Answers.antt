use Rattle.std.proofs.Common.{◌≡◌, Bor, leb, ◌&&◌, ap, ◌∙◌, rules, tests}
use Rattle.std.specs.Option.{option_map}
use Rattle.std.proofs.lemmas.Iterator.{YieldsList-from_slice}
use Rattle.std.proofs.lemmas.Iterator.Search.{find_from_yields_List}
use Rattle.plan.specs.declared.action.Action.{Action as Held}
use Rattle.plan.specs.Plan.{Action}
use Rattle.plan.specs.View.{action_of, plan_of}
use Rattle.judge.specs.Finding.{find, line_in}
use Rattle.judge.specs.Judging.{latest_start, left_behind}
use Rattle.judge.proofs.Recent.{behind_recent}
use Rattle.judge.proofs.Searches.{line_found}
use Rattle.judge.proofs.end.first_left_behind.Goals as goal

pub returns : goal.returns
returns c m so =
    let above = c.args.actions.now in
    let plan = plan_of above.list.items in
    let xs = c.recent-recent.result.now in
    let p = λ (b : Action). leb (latest_start plan) b.end && left_behind (plan_of xs) b in
    let found = find_from_yields_List (λ x. p (action_of x)) _ _ c.find.result c.find.ensures.ran (YieldsList-from_slice xs cc) (λ x b q k. search (rules, tests)) in
    let line : c.map.result ≡ option_map (λ (x : Held). x.line) (option_map (λ (y : Bor Held). y.now) c.find.result) = search rules in
    line ∙ line_found p xs _ found
    ∙ ap (λ qs. line_in (find (λ (b : Action). leb (latest_start plan) b.end && left_behind qs b) qs)) c.recent-recent.ensures
    ∙ ap line_in (behind_recent plan above.past.count above.passed m so)
