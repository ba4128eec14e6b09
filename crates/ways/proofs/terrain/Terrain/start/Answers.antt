-- Each column of the ground has its first label, and no column past the last is at the border.
use Rattle.std.proofs.Common.{None, ◌∙◌, arith}
use Rattle.std.proofs.lemmas.List.{length-set}
use Rattle.ways.specs.Table.{first_label}
use Rattle.ways.specs.View.{marked}
use Rattle.ways.proofs.InPlace.{one_set}
use Rattle.ways.proofs.terrain.Terrain.start.Goals as goal

pub loop-column-preserved : goal.loop-column-preserved
loop-column-preserved g c =
    let m = g.G.Ground.meaning c.args.self.now.ground.now in
    let us = c.loop-column.steps in
    let column = c.loop-column.column in (
      one_set (first_label m (marked c.args.self.now.marks.now)) (λ _. None) us column c.first.result c.loop-column.invariant.0
          (omega (arith, c.loop-column.invariant.1, (g.met.G.Ground.lawful c.args.self.now.ground.now).few)) c.first.ensures,
      length-set us column c.first.result ∙ c.loop-column.invariant.1,
    )
