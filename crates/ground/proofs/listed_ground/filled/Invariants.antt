-- The links read so far are kept.
use Rattle.std.proofs.Common.{take}
use Rattle.std.specs.List.{flat_map}
use Rattle.ground.specs.Table.{Filled, other}
use Rattle.ground.proofs.listed_ground.filled.Given as goal

abbrev pub invariant-loop-link : goal.invariant-loop-link
invariant-loop-link l = Filled l.border (λ c. flat_map (other c) (take l.link-index l.links)) l.rows
