use Rattle.std.proofs.Common.{◌≡◌, Bor, ap, ◌∙◌, rules, tests}
use Rattle.std.specs.Option.{option_map}
use Rattle.std.proofs.lemmas.Iterator.{YieldsList-from_slice}
use Rattle.std.proofs.lemmas.Iterator.Search.{find_from_yields_List}
use Rattle.plan.specs.declared.action.Action.{Action as Held}
use Rattle.plan.specs.Plan.{Action, no_action}
use Rattle.plan.specs.View.{action_of, plan_of}
use Rattle.judge.specs.Finding.{find, line_in}
use Rattle.judge.specs.Judging.{collide}
use Rattle.judge.proofs.Recent.{find_recent, none_collides}
use Rattle.judge.proofs.Searches.{line_found}
use Rattle.judge.proofs.rules.Placed.first_collision.Goals as goal

pub returns : goal.returns
returns c =
    let above = c.args.self.now.above.now in
    let plan = plan_of above.list.items in
    let a = action_of c.args.self.now.action.now in
    let xs = c.recent.result.now in
    let p = λ (b : Action). collide b a in
    let found = find_from_yields_List (λ x. p (action_of x)) _ _ c.find.result c.find.ensures.ran (YieldsList-from_slice xs cc) (λ x b q k. search (rules, tests)) in
    let line : c.map.result ≡ option_map (λ (x : Held). x.line) (option_map (λ (y : Bor Held). y.now) c.find.result) = search rules in
    line ∙ line_found p xs _ found
    ∙ ap line_in (ap (find p) c.recent.ensures ∙ find_recent p no_action above.past.count plan (none_collides plan above.past.count above.passed a c.requires))
