use Rattle.std.proofs.Common.{◌≡◌, false}
use Rattle.ways.specs.Table.{Relabelled, next_label, label}
use Rattle.ways.specs.View.{relief_of}
use Rattle.ways.proofs.terrain.Terrain.round.Given as goal

-- the columns before this one have had their turn
abbrev pub invariant-loop-column : goal.invariant-loop-column
invariant-loop-column g l =
    Relabelled (next_label (g.G.Ground.meaning l.self.ground.now) (relief_of g.C.Tall.tallness l.self) (label l.initial.steps) l.n) (label l.initial.steps) l.steps
    l.column
    × (l.grown ≡ false → l.steps ≡ l.initial.steps)
