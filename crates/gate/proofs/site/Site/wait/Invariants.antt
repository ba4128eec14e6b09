use Rattle.std.proofs.Common.{◌≡◌, ◌-◌}
use Rattle.gate.specs.View.{scene_of}
use Rattle.gate.specs.Time.{after_ticks}
use Rattle.gate.proofs.site.Site.wait.Given as goal

-- the ticks that are left come to what all come to
abbrev pub invariant-loop-tick : goal.invariant-loop-tick
invariant-loop-tick g l =
    after_ticks (l.times - l._tick) (scene_of l.self) ≡ after_ticks l.times (scene_of l.initial.self)
