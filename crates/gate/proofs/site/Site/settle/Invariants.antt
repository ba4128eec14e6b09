use Rattle.std.proofs.Common.{◌≡◌, vec_items}
use Rattle.gate.specs.View.{scene_of}
use Rattle.gate.specs.Time.{longest, settled}
use Rattle.gate.proofs.site.Site.settle.Given as goal

-- from here nothing runs where it does from the start
abbrev pub invariant-loop-self : goal.invariant-loop-self
invariant-loop-self g l = settled (scene_of l.self) ≡ settled (scene_of l.initial.self)

abbrev pub decreases-loop-self : goal.decreases-loop-self
decreases-loop-self g l = longest (vec_items l.self.columns)
