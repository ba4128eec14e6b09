-- The linked column that is told is the first of those that are left; past the most links there is none.
use Rattle.std.proofs.Common.{rules}
use Rattle.ground.proofs.Among.{next_item}
use Rattle.ground.proofs.neighbours.NeighboursIterator.next.Goals as goal

pub returns-clause-steps : goal.returns-clause-steps
returns-clause-steps g c = search (rules, next_item)
