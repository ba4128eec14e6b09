use Rattle.std.proofs.Common.{◌≡◌, length, None}
use Rattle.ways.specs.Table.{Relabelled, first_label}
use Rattle.ways.specs.View.{marked}
use Rattle.ways.proofs.terrain.Terrain.start.Given as goal

-- the columns before this one have their first label, and the others none
abbrev pub invariant-loop-column : goal.invariant-loop-column
invariant-loop-column g l =
    Relabelled (first_label (g.G.Ground.meaning l.self.ground.now) (marked l.self.marks.now)) (λ _. None) l.steps l.column
    × (length l.steps ≡ 256)
