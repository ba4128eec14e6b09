use Rattle.std.proofs.Common.{◌≡◌, Some, None, rules}
use Rattle.terms.specs.Refusals.{told, refusal_in}
use Rattle.gate.specs.declared.call.Call.TheVariants.{Enter}
use Rattle.gate.specs.View.{scene_of}
use Rattle.gate.specs.Gate.{refusal, grant}
use Rattle.gate.proofs.Deciding.{performed, refused}
use Rattle.gate.proofs.site.Site.enter.Goals as goal

pub returns-in_err-may_enter : goal.returns-in_err-may_enter
returns-in_err-may_enter g c =
    let t = told c.in_err-may_enter.field-0.0 0 0 in
    let is : refusal_in c.from_residual.result ≡ Some t = search rules in
    refused (scene_of c.args.self.now) (g.met.G.Ground.lawful c.args.self.now.floor) (Enter c.args.column c.args.block) (refusal_in c.from_residual.result) t is c.in_err-may_enter.ensures

pub returns : goal.returns
returns g c =
    let v = scene_of c.args.self.now in
    let k = Enter c.args.column c.args.block in
    let none : None ≡ refusal v k = search rules in
    let after : scene_of c.put.new.self ≡ grant v k = search rules in
    performed v (g.met.G.Ground.lawful c.args.self.now.floor) k None (scene_of c.put.new.self) none after
