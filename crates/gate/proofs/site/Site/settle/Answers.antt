use Rattle.std.proofs.Common.{sym, ap, ◌∙◌}
use Rattle.gate.specs.Time.{after_ticks}
use Rattle.gate.specs.View.{scene_of}
use Rattle.gate.proofs.Waiting.{busy_longest, idle_longest, settle_less, settle_on, settles_so}
use Rattle.gate.proofs.site.Site.settle.Goals as goal

pub loop-self-smaller : goal.loop-self-smaller
loop-self-smaller g c =
    let v = scene_of c.loop-self.self in
    let p = busy_longest v.meaning v.columns (sym c.any_runs.ensures ∙ c.loop-self-test.true) in
    settle_less v (scene_of c.tick.new.self) c.tick.ensures.after p

pub loop-self-preserved : goal.loop-self-preserved
loop-self-preserved g c =
    let v = scene_of c.loop-self.self in
    let p = busy_longest v.meaning v.columns (sym c.any_runs.ensures ∙ c.loop-self-test.true) in
    settle_on v (scene_of c.tick.new.self) c.tick.ensures.after p ∙ c.loop-self.invariant

pub returns-clause-value : goal.returns-clause-value
returns-clause-value g c =
    let v = scene_of c.loop-self.self in
    let none = idle_longest v.meaning v.columns (sym c.loop-self.self.columns.ok.0 ∙ c.loop-self.self.one_each) (sym c.any_runs.ensures ∙ c.loop-self-test.false) in
    sym (ap (λ n. after_ticks n v) none) ∙ c.loop-self.invariant

pub returns-clause-words : goal.returns-clause-words
returns-clause-words g c = settles_so (scene_of c.args.self.now)
