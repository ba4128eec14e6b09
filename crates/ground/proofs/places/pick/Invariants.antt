-- Among those that are left, the one to pick is number `left`.
use Rattle.std.proofs.Common.{◌≡◌, drop}
use Rattle.std.specs.List.{slice_get}
use Rattle.ground.specs.Members.{somes}
use Rattle.ground.proofs.places.pick.Given as goal

abbrev pub invariant-loop-place : goal.invariant-loop-place
invariant-loop-place l = slice_get (somes (drop l.place-index l.places)) l.left ≡ slice_get (somes l.places) l.k
