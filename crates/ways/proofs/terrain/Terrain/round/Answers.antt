use Rattle.std.proofs.Common.{◌+◌, length, Some, sym, ap, ◌∙◌, arith}
use Rattle.std.proofs.lemmas.List.{length-set}
use Rattle.std.proofs.lemmas.Bool.{true≢false}
use Rattle.ways.specs.Table.{label}
use Rattle.ways.specs.View.{relief_of}
use Rattle.ways.proofs.InPlace.{turned, passed_by}
use Rattle.ways.proofs.terrain.Terrain.round.Goals as goal
use Rattle.ways.proofs.terrain.Terrain.round.Goals.{then-gains, else-gains}

pub gains-requires : goal.gains-requires
gains-requires g c = omega (arith, (g.met.G.Ground.lawful c.args.self.now.ground.now).few)

pub loop-column-preserved : goal.loop-column-preserved
loop-column-preserved g c =
    let m = g.G.Ground.meaning c.args.self.now.ground.now in
    let r = relief_of g.C.Tall.tallness c.args.self.now in
    let old = label c.args.steps.now in
    let us = c.loop-column.steps in
    let few = (g.met.G.Ground.lawful c.args.self.now.ground.now).few in
    elim c.if-gains.branch [
      | then-gains w ↦ (
        turned m r c.args.n old us c.if-gains.steps c.loop-column.column c.loop-column.invariant.0
            (omega (arith, few, ap length w.steps-is, length-set us c.loop-column.column (Some (c.args.n + 1)))) (sym c.gains.ensures ∙ w.if-gains.true) w.steps-is,
        λ e. absurd (true≢false (sym w.grown-is ∙ e)),
      )
      | else-gains w ↦ (
        passed_by m r c.args.n old us c.if-gains.steps c.loop-column.column c.loop-column.invariant.0 (sym c.gains.ensures ∙ w.if-gains.false) w.steps-is,
        λ e. w.steps-is ∙ c.loop-column.invariant.1 (sym w.grown-is ∙ e),
      )
    ]
