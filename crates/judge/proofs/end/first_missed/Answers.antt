use Rattle.std.proofs.Common.{◌≡◌, true, false, sym, ap, ◌∙◌, rules, tests}
use Rattle.std.proofs.lemmas.Iterator.{first_from_Range}
use Rattle.terms.specs.Refusals.{told}
use Rattle.terms.specs.declared.refusal.Rule.TheVariants.{TargetMissed}
use Rattle.plan.specs.Rules.{target_of}
use Rattle.plan.specs.View.{plan_of}
use Rattle.judge.specs.Judging.{missed}
use Rattle.judge.proofs.Chains.{first_below}
use Rattle.judge.proofs.end.first_missed.Goals as goal

pub returns : goal.returns
returns c lines =
    let q = missed (plan_of c.args.actions.now.list.items) (target_of c.args.targets.now) c.args.time in
    first_below q (told TargetMissed lines) c.args.columns c.find.result
    (first_from_Range _ _ _ c.find.result (λ k. q k ≡ true) (λ k. q k ≡ false) c.find.ensures.ran (λ x f k. let e : true ≡ q k.shown.now = search (rules, tests) in sym (e ∙ ap q k.shows))
    (λ x f k. let e : false ≡ q k.shown.now = search (rules, tests) in (search (rules, tests), sym (e ∙ ap q k.shows))))
