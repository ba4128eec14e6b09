-- The columns that are there are the neighbours.
use Rattle.std.proofs.Common.{rules}
use Rattle.corridor.proofs.Laws.{row_neighbours}
use Rattle.corridor.proofs.Corridor.beside.Goals as goal

pub returns-then-column-self : goal.returns-then-column-self
returns-then-column-self c = search (rules, row_neighbours c.args.self.now.columns c.args.column)

pub returns : goal.returns
returns c = search (rules, row_neighbours c.args.self.now.columns c.args.column)
