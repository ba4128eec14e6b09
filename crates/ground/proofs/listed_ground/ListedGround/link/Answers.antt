-- A row tells the columns linked with its own one by one: its places are filled from the front.
use Rattle.std.proofs.Common.{rules}
use Rattle.ground.proofs.Picks.{told_at, told_outside}
use Rattle.ground.proofs.listed_ground.ListedGround.link.Goals as goal

pub returns : goal.returns
returns c =
    let g = c.args.self.now in
    search (rules, told_at g.columns g.rows c.args.column (g.rows_tell c.args.column) c.args.k, told_outside g.columns g.rows c.args.column (g.rows_tell c.args.column), g.rows_packed c.args.column c.args.k)
