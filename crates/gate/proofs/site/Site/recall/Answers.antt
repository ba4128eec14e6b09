use Rattle.std.proofs.Common.{◌≡◌, Some, None, Ok, Err, rules, sym, ap, ◌∙◌}
use Rattle.terms.specs.Refusals.{told}
use Rattle.terms.specs.declared.refusal.Rule.TheVariants.{NoRobot}
use Rattle.ways.specs.Table.{steps}
use Rattle.ways.specs.View.{marked, steps_in}
use Rattle.gate.specs.declared.order.Order.{Order}
use Rattle.gate.specs.Scene.{Columns, lying}
use Rattle.gate.specs.Recall.{named, recall_of}
use Rattle.gate.specs.View.{scene_of}
use Rattle.gate.proofs.Lies.{steps_same}
use Rattle.gate.proofs.Recalling.{busy, quiet, rightly}
use Rattle.gate.proofs.site.Site.recall.Goals as goal

pub returns-then-any_runs : goal.returns-then-any_runs
returns-then-any_runs g c =
    let v = scene_of c.args.self.now in
    let r = recall_of (Err c.into.result) in
    let e = busy v (sym c.any_runs.ensures ∙ c.if-any_runs.true) r (ap Err c.into.ensures) in
    record { value = e; words = λ h. rightly v (g.met.G.Ground.lawful c.args.self.now.floor) h r e }

pub returns-in_err-column : goal.returns-in_err-column
returns-in_err-column g c =
    let v = scene_of c.args.self.now in
    let f = steps_in c.search-ways.result in
    let same = steps_same v.meaning c.deref.result.now v.marks f c.search-ways.ensures.value
    ∙ ap (λ (xs : Columns). steps v.meaning (lying xs (marked v.marks))) c.deref.ensures.value in
    let none : c.nearest.result ≡ None = search rules in
    let r = recall_of c.from_residual.result in
    let is : r ≡ Err (told NoRobot 0 0) = search rules in
    let e = quiet v f same (sym c.any_runs.ensures ∙ c.if-any_runs.false) r (is ∙ ap (named v.meaning v.columns f) (sym none ∙ c.nearest.ensures)) in
    record { value = e; words = λ h. rightly v (g.met.G.Ground.lawful c.args.self.now.floor) h r e }

pub returns : goal.returns
returns g c =
    let v = scene_of c.args.self.now in
    let f = steps_in c.search-ways.result in
    let same = steps_same v.meaning c.deref.result.now v.marks f c.search-ways.ensures.value
    ∙ ap (λ (xs : Columns). steps v.meaning (lying xs (marked v.marks))) c.deref.ensures.value in
    let best : c.nearest.result ≡ Some (c.in_ok-column.column, c.in_ok-column.steps) = search rules in
    let order : Order = record { column = c.in_ok-column.column; next = c.next-next.result; left = c.toll.result } in
    let is : Ok order ≡ named v.meaning v.columns f (Some (c.in_ok-column.column, c.in_ok-column.steps)) =
    λ i. Ok (record { column = c.in_ok-column.column; next = c.next-next.ensures i; left = c.toll.ensures i }) in
    let e = quiet v f same (sym c.any_runs.ensures ∙ c.if-any_runs.false) (Ok order) (is ∙ ap (named v.meaning v.columns f) (sym best ∙ c.nearest.ensures)) in
    record { value = e; words = λ h. rightly v (g.met.G.Ground.lawful c.args.self.now.floor) h (Ok order) e }
