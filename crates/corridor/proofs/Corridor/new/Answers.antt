-- What is made obeys the laws.
use Rattle.std.proofs.Common.{rules}
use Rattle.corridor.proofs.Laws.{row_few, row_lawful}
use Rattle.corridor.proofs.Corridor.new.Goals as goal

pub invariant_of-result : goal.invariant_of-result
invariant_of-result c = search (rules, row_lawful, row_few)
