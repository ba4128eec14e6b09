use Rattle.std.proofs.Common.{drop, sym, ap, ◌∙◌}
use Rattle.std.proofs.lemmas.List.{drop-map, take_rest}
use Rattle.plan.specs.View.{action_of, plan_of}
use Rattle.judge.proofs.actions.Actions.recent.Goals as goal

pub returns : goal.returns
returns c =
    let past = c.args.self.now.past.count in
    ap plan_of (take_rest c.as_slice.result.now past) ∙ sym (drop-map action_of past c.as_slice.result.now) ∙ ap (λ xs. drop past (plan_of xs)) c.as_slice.ensures.value
