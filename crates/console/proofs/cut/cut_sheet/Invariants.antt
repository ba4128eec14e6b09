use Rattle.std.proofs.Common.{length}
use Rattle.console.proofs.Lining.{Taken}
use Rattle.console.proofs.cut.cut_sheet.Given as goal

abbrev pub invariant-loop-ended : goal.invariant-loop-ended
invariant-loop-ended l = Taken l.text l.rest l.count l.ended

abbrev pub decreases-loop-ended : goal.decreases-loop-ended
decreases-loop-ended l = length l.rest
