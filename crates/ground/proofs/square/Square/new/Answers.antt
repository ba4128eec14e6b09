use Rattle.ground.proofs.Coordinates.{squared_is}
use Rattle.ground.proofs.square.Square.new.Goals as goal

pub returns-clause-means : goal.returns-clause-means
returns-clause-means c = squared_is c.args.x c.args.y
