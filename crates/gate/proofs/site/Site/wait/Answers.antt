use Rattle.std.proofs.Common.{◌<◌, ◌-◌, ◌+◌, sym, ◌∙◌, arith}
use Rattle.gate.specs.View.{scene_of}
use Rattle.gate.proofs.Waiting.{idle_longest, idle_on, tick_on}
use Rattle.gate.proofs.site.Site.wait.Goals as goal

pub loop-tick-preserved : goal.loop-tick-preserved
loop-tick-preserved g c =
    let l : c.loop-tick._tick < c.args.times = omega arith in
    tick_on (scene_of c.loop-tick.self) (scene_of c.tick.new.self) c.args.times c.loop-tick._tick l c.tick.ensures.after ∙ c.loop-tick.invariant

pub returns-then-not-any_runs : goal.returns-then-not-any_runs
returns-then-not-any_runs g c =
    let v = scene_of c.loop-tick.self in
    let w = scene_of c.tick.new.self in
    let law = g.met.G.Ground.lawful c.loop-tick.self.floor in
    let l : c.loop-tick._tick < c.args.times = omega arith in
    let none = idle_longest w.meaning w.columns (sym c.tick.new.self.columns.ok.0 ∙ c.tick.new.self.one_each) (sym c.any_runs.ensures ∙ c.if-not-any_runs.true) in
    sym (idle_on (c.args.times - (c.loop-tick._tick + 1)) v w c.tick.ensures.after law.few none)
    ∙ tick_on v w c.args.times c.loop-tick._tick l c.tick.ensures.after ∙ c.loop-tick.invariant
