-- The sides that are there are the neighbours.
use Rattle.std.proofs.Common.{rules}
use Rattle.ground.specs.Beside.{sides_are}
use Rattle.ground.proofs.square.Square.around.Goals as goal

pub returns : goal.returns
returns c = search (rules, sides_are c.args.self.now.x c.args.self.now.y c.args.self.now.y_low c.args.column)
