use Rattle.std.proofs.Common.{◌≡◌, drop}
use Rattle.gate.specs.View.{scene_of}
use Rattle.plan.specs.View.{plan_of}
use Rattle.play.specs.Play.{play}
use Rattle.play.proofs.player.play_all.Given as goal

-- the actions that are left come to what all come to
abbrev pub invariant-loop-action : goal.invariant-loop-action
invariant-loop-action g l =
    play (plan_of (drop l.action-index l.actions)) l.time (scene_of l.site)
    ≡ play (plan_of l.actions) 0 (scene_of l.initial.site)
