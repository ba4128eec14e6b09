use Rattle.std.proofs.Common.{◌≡◌, ◌+◌, ◌*◌, ◌≤◌, ◌++◌, length}
use Rattle.std.specs.List.{flat_map, range_with_len}
use Rattle.gate.specs.Scene.{at}
use Rattle.gate.specs.View.{scene_of}
use Rattle.console.specs.Drawing.{cell}
use Rattle.console.proofs.page.Page.put_drawing.Given as goal

-- the cells of the columns so far are there
abbrev pub invariant-loop-column : goal.invariant-loop-column
invariant-loop-column g l =
    (l.self ≡ l.initial.self ++ flat_map (λ c. cell l.width c (at (scene_of l.site).columns c)) (range_with_len 0 l.column))
    × (length l.self ≤ length l.initial.self + 11 * l.column)
