use Rattle.std.proofs.Common.{◌≡◌, Some, rules, ap, ◌∙◌}
use Rattle.terms.specs.Refusals.{told, refusal_in}
use Rattle.gate.specs.declared.call.Call.TheVariants.{Lift}
use Rattle.gate.specs.declared.column.Part.TheVariants.{Lifting, Sinking}
use Rattle.gate.specs.Scene.{tried}
use Rattle.gate.specs.Gate.{lowest_stranded, lift_tests, changing, settle}
use Rattle.gate.specs.View.{scene_of}
use Rattle.gate.proofs.Deciding.{performed, refused}
use Rattle.gate.proofs.Trying.{by_tests, by_trial}
use Rattle.gate.proofs.site.Site.lift.Goals as goal

pub returns-in_err-may_lift : goal.returns-in_err-may_lift
returns-in_err-may_lift g c =
    let v = scene_of c.args.self.now in
    let t = told c.in_err-may_lift.field-0.0 0 0 in
    let is : refusal_in c.from_residual.result ≡ Some t = search rules in
    refused v (g.met.G.Ground.lawful c.args.self.now.floor) (Lift c.args.from c.args.to) (refusal_in c.from_residual.result) t is
    (by_tests (lift_tests v.meaning v.columns c.args.from c.args.to) (lowest_stranded v.meaning v.columns (tried v c.args.to)) c.in_err-may_lift.ensures)

pub returns : goal.returns
returns g c =
    let v = scene_of c.args.self.now in
    let o = refusal_in c.change.result in
    performed v (g.met.G.Ground.lawful c.args.self.now.floor) (Lift c.args.from c.args.to) o (scene_of c.change.new.self)
    (by_trial (lift_tests v.meaning v.columns c.args.from c.args.to) (lowest_stranded v.meaning v.columns (tried v c.args.to)) o c.in_ok-may_lift.ensures c.change.ensures.answer)
    (c.change.ensures.after ∙ ap (λ n. settle o (changing v c.args.from (Lifting c.args.to) c.args.to (Sinking c.args.from) n) v) c.duration-left.ensures.value)
