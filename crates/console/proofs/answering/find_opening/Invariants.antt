use Rattle.std.proofs.Common.{◌≡◌, ◌+◌, ◌*◌, ◌≤◌, ◌++◌, length}
use Rattle.console.specs.Printed.{behind_opening, first_part, found}
use Rattle.console.proofs.answering.find_opening.Given as goal

-- no line so far opened a site: what the lines that are left come to is what all come to
abbrev pub invariant-loop-entry : goal.invariant-loop-entry
invariant-loop-entry l =
    (l.page ++ first_part l.script ≡ l.fn.page ++ first_part l.fn.script)
    × (found l.script ≡ found l.fn.script)
    × (behind_opening l.script ≡ behind_opening l.fn.script)
    × (length l.page + 3000 * length l.script ≤ 24579000)

abbrev pub decreases-loop-entry : goal.decreases-loop-entry
decreases-loop-entry l = length l.script
