use Rattle.std.proofs.Common.{◌≡◌, ◌-◌}
use Rattle.gate.specs.View.{scene_of}
use Rattle.console.specs.Halls.{home}
use Rattle.console.proofs.serving.clear.Given as goal

-- the actions that are left come to what all come to
abbrev pub invariant-loop-action : goal.invariant-loop-action
invariant-loop-action g l = home (l.actions - l._action) (scene_of l.site) ≡ home l.actions (scene_of l.initial.site)
