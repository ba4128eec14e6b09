use Rattle.std.proofs.Common.{◌∙◌, arith}
use Rattle.gate.specs.View.{scene_of}
use Rattle.console.proofs.Homeward.{home_on}
use Rattle.console.proofs.serving.clear.Goals as goal

pub loop-action-preserved : goal.loop-action-preserved
loop-action-preserved g c =
    home_on (scene_of c.loop-action.site) (scene_of c.obey.new.site) c.map_or-actions.result c.loop-action._action (omega arith) c.obey.ensures ∙ c.loop-action.invariant
