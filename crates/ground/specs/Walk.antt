-- What is still to come of the columns linked with a column. Assumes nothing.
use Rattle.std.specs.Prelude.{ℕ, List, drop}
use Rattle.ground.specs.Meaning.{Meaning, neighbours}
use Rattle.ground.specs.declared.neighbours.Neighbours.{Neighbours}

abbrev pub still_linked : {G : Type 0} → (G → Meaning) → Neighbours G → List ℕ
still_linked meaning walk = drop walk.next (neighbours (meaning walk.ground.now) walk.column)
