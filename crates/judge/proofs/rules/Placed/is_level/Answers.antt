use Rattle.std.proofs.Common.{ℕ, ap, ◌∙◌, ap₂}
use Rattle.plan.specs.Plan.{height_at}
use Rattle.plan.specs.View.{plan_of}
use Rattle.judge.specs.Judging.{fits}
use Rattle.judge.proofs.rules.Placed.is_level.Goals as goal

pub returns : goal.returns
returns c =
    let a = c.args.self.now.action.now in
    let above = plan_of c.args.self.now.above.now.list.items in
    c.is_fitting.ensures
    ∙ ap₂ (fits a.work a.from.height a.to.height)
    (c.height_at-from.ensures ∙ ap (λ (t : ℕ). height_at above t a.from.column) c.start-start.ensures)
    (c.height_at-to.ensures ∙ ap (λ (t : ℕ). height_at above t a.to.column) c.start-start.ensures)
