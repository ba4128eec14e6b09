use Rattle.std.proofs.Common.{◌≡◌, ◌<◌, length, sym, subst, ap, ◌∙◌, arith}
use Rattle.std.proofs.lemmas.List.{get_or-map, get_or_default, length-map}
use Rattle.plan.specs.declared.action.Action.{Action as Held}
use Rattle.plan.specs.Plan.{Action, delivers, is_deliver, is_pick_up, line, no_action, picks}
use Rattle.plan.specs.View.{action_of, end_of, plan_of}
use Rattle.judge.specs.Finding.{Passed}
use Rattle.judge.proofs.Heights.{delivering, picking, tally_next, tally_small}
use Rattle.judge.proofs.Past.{passed_more}
use Rattle.judge.proofs.passing.pass.Goals as goal

pub add-requires-clause-delivered : goal.add-requires-clause-delivered
add-requires-clause-delivered c =
    let past = c.loop-past.past in
    let inv = c.loop-past.invariant in
    tally_small (λ a. is_deliver a.work) delivers delivering (plan_of c.args.list.now) c.args.time past.count past.delivered (omega (arith, inv.0.within, c.requires.few)) inv.1 c.index-list-past-in-loop-past.result.to.column

pub add-requires-clause-picked : goal.add-requires-clause-picked
add-requires-clause-picked c =
    let past = c.loop-past.past in
    let inv = c.loop-past.invariant in
    tally_small (λ a. is_pick_up a.work) picks picking (plan_of c.args.list.now) c.args.time past.count past.picked (omega (arith, inv.0.within, c.requires.few)) inv.2 c.index-list-past-in-loop-past.result.to.column

pub loop-past-preserved : goal.loop-past-preserved
loop-past-preserved c =
    let xs = c.args.list.now in
    let plan = plan_of xs in
    let t = c.args.time in
    let past = c.loop-past.past in
    let n = past.count in
    let inv = c.loop-past.invariant in
    let held = c.index-list-past-in-loop-past.result in
    let at = sym c.index-list-past-in-loop-past.is in
    let within : n < length plan = omega (arith, length-map xs action_of, c.loop-past-test.true) in
    let is : line plan n ≡ action_of held = get_or-map action_of xs n held no_action c.loop-past-test.true ∙ ap action_of at in
    let end : c.end.result ≡ end_of held.span = c.end.ensures ∙ ap (λ (x : Held). end_of x.span) (get_or_default xs n c.index-list-past.result held c.loop-past-test.true ∙ at) in
    let ended : end_of held.span < t = omega (arith, end, c.if-end-time.true) in (
      subst (λ n. Passed plan t n) (sym c.add.ensures.count)
          (passed_more plan t n inv.0 within (subst (λ (b : Action). b.start < b.end) (sym is) held.span.ordered) (subst (λ (b : Action). b.end < t) (sym is) ended)),
      tally_next (λ a. is_deliver a.work) delivers delivering plan t n past.delivered within (action_of held) is ended inv.1 c.add.ensures.count c.add.ensures.delivered,
      tally_next (λ a. is_pick_up a.work) picks picking plan t n past.picked within (action_of held) is ended inv.2 c.add.ensures.count c.add.ensures.picked,
    )
