use Rattle.std.proofs.Common.{◌≡◌, ℕ, None, length, vec_items, rules, refl, sym, ap, ◌∙◌}
use Rattle.std.specs.Vec.{with_items}
use Rattle.std.proofs.lemmas.List.{with_items_is, length-map}
use Rattle.gate.specs.declared.call.Call.TheVariants.{Tick}
use Rattle.gate.specs.Column.{ticked}
use Rattle.gate.specs.Scene.{Columns, tick_all, renewed_marks, with_columns, with_marks}
use Rattle.gate.specs.View.{scene_of}
use Rattle.gate.proofs.Deciding.{performed}
use Rattle.gate.proofs.site.Site.tick.Goals as goal

pub returns : goal.returns
returns g c =
    let v = scene_of c.args.self.now in
    let after = tick_all v.columns in
    let xs = vec_items (with_items c.args.self.now.columns c.tick_all.new.columns) in
    let kept : vec_items (with_items c.args.self.now.columns c.tick_all.new.columns) ≡ tick_all (vec_items c.args.self.now.columns) = search (rules, with_items_is, length-map) in
    let read : c.deref.result.now ≡ tick_all (vec_items c.args.self.now.columns) = search (rules, with_items_is, length-map) in
    performed v (g.met.G.Ground.lawful c.args.self.now.floor) Tick None (with_marks (with_columns v xs) c.renew_marks.new.marks) refl
    (ap (λ (ys : Columns). with_marks (with_columns v ys) c.renew_marks.new.marks) kept
    ∙ ap (with_marks (with_columns v after)) c.renew_marks.ensures
    ∙ ap (λ (ys : Columns). with_marks (with_columns v after) (renewed_marks (length ys) ys v.marks)) read
    ∙ ap (λ (n : ℕ). with_marks (with_columns v after) (renewed_marks n after v.marks))
    (length-map v.columns ticked ∙ sym c.args.self.now.columns.ok.0 ∙ c.args.self.now.one_each))
