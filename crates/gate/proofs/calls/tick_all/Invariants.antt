use Rattle.std.proofs.Common.{◌≡◌, ◌++◌, map, take, drop}
use Rattle.gate.specs.Column.{ticked}
use Rattle.gate.proofs.calls.tick_all.Given as goal

-- the columns before this one have had their tick, and the others are as they were
abbrev pub invariant-loop-column : goal.invariant-loop-column
invariant-loop-column l = l.columns ≡ map ticked (take l.column-index l.initial.columns) ++ drop l.column-index l.initial.columns
