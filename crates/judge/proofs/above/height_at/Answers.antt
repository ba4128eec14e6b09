use Rattle.std.proofs.Common.{ℕ, ◌-◌, get_or, count_by, sym, ap, ◌∙◌, ap₂, arith}
use Rattle.plan.specs.Plan.{delivers, picks}
use Rattle.plan.specs.View.{plan_of}
use Rattle.judge.specs.Judging.{latest_start}
use Rattle.judge.proofs.Heights.{height_tallied}
use Rattle.judge.proofs.above.height_at.Goals as goal

pub returns : goal.returns
returns c =
    let above = c.args.actions.now in
    let plan = plan_of above.list.items in
    let t = c.args.time in
    let column = c.args.column in
    c.saturating_sub.ensures
    ∙ ap₂ ◌-◌ (omega (arith, c.delivered_by-delivered.ensures, c.from.ensures, ap (λ (i : ℕ). get_or above.past.delivered i 0) c.from-at.ensures, ap (count_by (delivers t column)) c.recent-recent.ensures))
    (omega (arith, c.picked_by-picked.ensures, c.from-2.ensures, ap (λ (i : ℕ). get_or above.past.picked i 0) c.from-at.ensures, ap (count_by (picks t column)) c.recent-recent.ensures))
    ∙ sym (height_tallied plan (latest_start plan) above.past.count column t above.past.delivered above.past.picked c.requires.column c.requires.time above.delivered above.picked)
