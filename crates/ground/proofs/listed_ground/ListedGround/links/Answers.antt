-- A row tells how many columns are linked with its own.
use Rattle.std.proofs.Common.{rules}
use Rattle.ground.proofs.Picks.{told_inside, told_outside}
use Rattle.ground.proofs.listed_ground.ListedGround.links.Goals as goal

pub returns : goal.returns
returns c = search (rules, told_inside c.args.self.now.columns c.args.self.now.rows c.args.column (c.args.self.now.rows_tell c.args.column), told_outside c.args.self.now.columns c.args.self.now.rows c.args.column (c.args.self.now.rows_tell c.args.column))
