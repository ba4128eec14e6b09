-- What is undertaken stands of what the run leaves, and by no name of a step: a site after one more step finds no proof.
use Rattle.std.proofs.Common.{rules, vec_items}
use Rattle.terms.specs.View.{settings_of}
use Rattle.undertaking.proofs.Making.{proper}
use Rattle.service.proofs.Turning.{whole_of}
use Rattle.service.proofs.performing.perform.Goals as goal

pub returns : goal.returns
returns g c =
    search (rules, whole_of (g.G.Ground.meaning c.args.ground) (settings_of c.args.settings) (g.met.G.Ground.lawful c.args.ground) (proper c.args.settings) (vec_items c.args.stage.requests))
