use Rattle.std.proofs.Common.{◌≡◌, length}
use Rattle.gate.proofs.Marks.{Renewed}
use Rattle.gate.proofs.calls.renew_marks.Given as goal

-- the columns before this one are marked as their states say, the others as they were
abbrev pub invariant-loop-at : goal.invariant-loop-at
invariant-loop-at l = (length l.marks ≡ 256) × Renewed l.columns l.initial.marks l.at l.marks
