use Rattle.std.proofs.Common.{◌≡◌, ◌≤◌, vec_capacity, vec_len}
use Rattle.console.proofs.desk.Desk.new.Given as goal

-- there is room for those that are still to be made
abbrev pub invariant-loop-sheet : goal.invariant-loop-sheet
invariant-loop-sheet l = (vec_len l.sheets ≡ l._sheet) × (16 ≤ vec_capacity l.sheets)
