use Rattle.std.proofs.Common.{sym, ap, ◌∙◌, add-one, arith}
use Rattle.ways.specs.Table.{label, after}
use Rattle.ways.specs.View.{relief_by}
use Rattle.ways.proofs.Exactness.{steps_home}
use Rattle.ways.proofs.InPlace.{blank, started, rounded, all_rounds, ended_early}
use Rattle.ways.proofs.found.Ways.search.Goals as goal

pub start-requires : goal.start-requires
start-requires g c = blank

pub loop-n-init : goal.loop-n-init
loop-n-init g c =
    started (g.G.Ground.meaning c.args.ground.now) (relief_by g.C.Tall.tallness c.args.columns.now c.args.marks.now) (g.met.G.Ground.lawful c.args.ground.now) c.start.new.steps c.start.ensures

pub loop-n-preserved : goal.loop-n-preserved
loop-n-preserved g c =
    let m = g.G.Ground.meaning c.args.ground.now in
    let r = relief_by g.C.Tall.tallness c.args.columns.now c.args.marks.now in
    λ e. rounded m r c.loop-n.n c.loop-n.steps c.round.new.steps c.loop-n.invariant c.round.ensures.labels e ∙ ap (λ k. label (after m r k) e) (sym (add-one c.loop-n.n))

pub round-requires : goal.round-requires
round-requires g c = omega (arith, (g.met.G.Ground.lawful c.args.ground.now).few)

pub returns-then-not-round : goal.returns-then-not-round
returns-then-not-round g c =
    let m = g.G.Ground.meaning c.args.ground.now in
    let r = relief_by g.C.Tall.tallness c.args.columns.now c.args.marks.now in
    let is = rounded m r c.loop-n.n c.loop-n.steps c.round.new.steps c.loop-n.invariant c.round.ensures.labels in
    let same = c.round.ensures.still c.if-not-round.true in
    let done = ended_early m r c.loop-n.steps c.round.new.steps c.loop-n.n (omega arith) c.loop-n.invariant is (λ e. ap (λ t. label t e) same) in
    record { value = done; words = λ e. steps_home m r (g.met.G.Ground.lawful c.args.ground.now) e (label c.round.new.steps e) (sym (done e)) }

pub returns : goal.returns
returns g c =
    let m = g.G.Ground.meaning c.args.ground.now in
    let r = relief_by g.C.Tall.tallness c.args.columns.now c.args.marks.now in
    let done = all_rounds m r c.loop-n.steps c.loop-n.n (omega arith) c.loop-n.invariant in
    record { value = done; words = λ e. steps_home m r (g.met.G.Ground.lawful c.args.ground.now) e (label c.loop-n.steps e) (sym (done e)) }
