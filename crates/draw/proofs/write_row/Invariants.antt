use Rattle.std.proofs.Common.{◌≡◌, ◌*◌, take}
use Rattle.std.specs.List.{flat_map}
use Rattle.draw.specs.Rows.{cell}
use Rattle.draw.proofs.write_row.Given as goal

-- The cells so far stand in front.
abbrev pub invariant-loop-i : goal.invariant-loop-i
invariant-loop-i l = take (3 * l.i) l.out ≡ flat_map cell (take l.i l.heights)
