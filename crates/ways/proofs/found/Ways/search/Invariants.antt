use Rattle.std.proofs.Common.{◌≡◌, ℕ}
use Rattle.ways.specs.Table.{label, after}
use Rattle.ways.specs.View.{relief_by}
use Rattle.ways.proofs.found.Ways.search.Given as goal

-- the table after n rounds
abbrev pub invariant-loop-n : goal.invariant-loop-n
invariant-loop-n g l = (c : ℕ) → label l.steps c ≡ label (after (g.G.Ground.meaning l.ground) (relief_by g.C.Tall.tallness l.columns l.marks) l.n) c
