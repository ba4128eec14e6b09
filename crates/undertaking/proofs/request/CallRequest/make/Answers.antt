use Rattle.std.proofs.Common.{sym, ap, ◌∙◌}
use Rattle.gate.specs.Gate.{step}
use Rattle.gate.specs.View.{scene_of}
use Rattle.undertaking.proofs.request.CallRequest.make.Goals as goal

pub returns-in-Tick-clause-after : goal.returns-in-Tick-clause-after
returns-in-Tick-clause-after g c = c.tick.ensures.after ∙ sym (ap (step (scene_of c.args.site.now)) c.in-Tick.is)
