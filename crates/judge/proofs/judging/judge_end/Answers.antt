-- Each way out is the first test that holds, those before it having failed.
use Rattle.std.proofs.Common.{ap, ◌∙◌, arith}
use Rattle.std.proofs.lemmas.Grind.{common_steps}
use Rattle.plan.specs.Plan.{makespan}
use Rattle.plan.specs.Rules.{target_of}
use Rattle.plan.specs.View.{plan_of}
use Rattle.judge.proofs.Ended.{both_in_turn, in_turn, starts_by_end}
use Rattle.judge.proofs.judging.judge_end.Goals as goal

pub first_missed-requires-clause-time : goal.first_missed-requires-clause-time
first_missed-requires-clause-time g c =
    let xs = c.args.actions.now.list.items in
    omega (arith, starts_by_end xs, c.latest_end-end.ensures, ap (λ ys. makespan (plan_of ys)) c.as_slice.ensures.value)

pub returns-in-Some : goal.returns-in-Some
returns-in-Some g c so =
    let tests = in_turn (g.G.Ground.meaning c.args.ground.now) (plan_of c.args.actions.now.list.items) (target_of c.args.sheet.now.targets.items) c.args.sheet.now.lines _ (c.first_left_behind.ensures (g.G.Ground.meaning c.args.ground.now) so) in
    grind (arith, common_steps)

pub returns-in-Some-first_missed : goal.returns-in-Some-first_missed
returns-in-Some-first_missed g c so =
    let lines = c.args.sheet.now.lines in
    let tests = both_in_turn (g.G.Ground.meaning c.args.ground.now) (plan_of c.args.actions.now.list.items) lines _ (c.first_left_behind.ensures (g.G.Ground.meaning c.args.ground.now) so) c.columns-columns.ensures (c.latest_end-end.ensures ∙ ap (λ xs. makespan (plan_of xs)) c.as_slice.ensures.value) c.as_slice-2.ensures.value (c.first_missed.ensures lines) in
    grind (arith, common_steps)

pub returns : goal.returns
returns g c so =
    let lines = c.args.sheet.now.lines in
    let tests = both_in_turn (g.G.Ground.meaning c.args.ground.now) (plan_of c.args.actions.now.list.items) lines _ (c.first_left_behind.ensures (g.G.Ground.meaning c.args.ground.now) so) c.columns-columns.ensures (c.latest_end-end.ensures ∙ ap (λ xs. makespan (plan_of xs)) c.as_slice.ensures.value) c.as_slice-2.ensures.value (c.first_missed.ensures lines) in
    grind (arith, common_steps)
