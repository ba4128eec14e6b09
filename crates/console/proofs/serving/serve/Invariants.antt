use Rattle.std.proofs.Common.{◌≡◌, ◌+◌, ◌*◌, ◌≤◌, ◌++◌, length}
use Rattle.console.specs.Halls.{printed}
use Rattle.console.specs.View.{hall_of}
use Rattle.console.proofs.serving.serve.Given as goal

-- what is printed so far, and what is printed of the lines that are left, is what is printed of all
abbrev pub invariant-loop-entry : goal.invariant-loop-entry
invariant-loop-entry g l =
    (l.page ++ printed (hall_of l.hall) l.script ≡ l.fn.page ++ printed (hall_of l.fn.hall) l.fn.script)
    × (length l.page + 3000 * length l.script ≤ 24579000)

abbrev pub decreases-loop-entry : goal.decreases-loop-entry
decreases-loop-entry g l = length l.script
