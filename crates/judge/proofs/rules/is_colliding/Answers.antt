use Rattle.std.proofs.Common.{◌≡◌, Bool, ◌&&◌, sym, ap, ◌∙◌}
use Rattle.std.proofs.lemmas.Bool.Decides.{same_from_decides}
use Rattle.plan.specs.Plan.{shares}
use Rattle.plan.specs.View.{action_of}
use Rattle.judge.specs.Judging.{overlap}
use Rattle.judge.proofs.Reasoned.{decides_overlap}
use Rattle.judge.proofs.rules.is_colliding.Goals as goal

pub returns-else-overlaps : goal.returns-else-overlaps
returns-else-overlaps c =
    let one = action_of c.args.one.now in
    let other = action_of c.args.other.now in
    let e : c.overlaps.result ≡ overlap one other = same_from_decides _ _ c.overlaps.ensures (decides_overlap one other) in
    c.if-overlaps.false ∙ ap (λ (b : Bool). b && shares one other) (sym c.if-overlaps.false ∙ e)
