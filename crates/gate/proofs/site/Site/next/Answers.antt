use Rattle.std.proofs.Common.{ℕ, vec_items, unwrap_or, ap, ◌∙◌, rules, ◌≡◌}
use Rattle.ways.specs.Table.{nearer}
use Rattle.ways.specs.View.{heights_by, steps_in}
use Rattle.gate.specs.declared.column.Column.{Column}
use Rattle.gate.specs.declared.order.Next.TheVariants.{Moves}
use Rattle.gate.specs.Scene.{Columns}
use Rattle.gate.proofs.Lies.{heights_read}
use Rattle.gate.proofs.Recalling.{moves_by}
use Rattle.gate.proofs.site.Site.next.Goals as goal

pub returns : goal.returns
returns g c =
    let m = g.G.Ground.meaning c.args.self.now.floor in
    let xs = vec_items c.args.self.now.columns in
    let f = steps_in c.args.ways.now in
    let is : c.unwrap_or-to.result ≡ unwrap_or c.nearer.result 0 = search rules in
    ap Moves is
    ∙ moves_by m xs f c.args.column c.args.steps c.if-steps-eq0.false c.nearer.result
    (c.nearer.ensures ∙ ap (λ (ys : Columns). nearer m (heights_by (λ (x : Column). x.height) ys) f c.args.column) c.deref.ensures.value
    ∙ ap (λ (h : ℕ → ℕ). nearer m h f c.args.column) (λ i e. heights_read xs e i))
