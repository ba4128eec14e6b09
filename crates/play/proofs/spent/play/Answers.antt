use Rattle.play.proofs.Standing.{plays_stand}
use Rattle.play.proofs.spent.play.Goals as goal

pub returns-clause-stands : goal.returns-clause-stands
returns-clause-stands g c = plays_stand
