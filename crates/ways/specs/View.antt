-- What clauses read of columns, marks and a found table. Assumes nothing.
use Rattle.std.specs.Prelude.{ℕ, Bool, not, List, map, Option, ◌==◌, slice_index}
use Rattle.ways.specs.Way.{Relief}
use Rattle.ways.specs.Table.{label}
use Rattle.ways.specs.declared.found.Ways.{Ways}
use Rattle.ways.specs.declared.terrain.Terrain.{Terrain}

-- the height of a column, by what a column is; 0 past the last
abbrev pub heights_by : {C : Type 0} → (C → ℕ) → List C → ℕ → ℕ
heights_by tallness columns c = slice_index (map tallness columns) c

-- a mark other than 0 says that the column is changing
abbrev pub marked : List ℕ → ℕ → Bool
marked marks c = not (slice_index marks c == 0)

abbrev pub relief_by : {C : Type 0} → (C → ℕ) → List C → List ℕ → Relief
relief_by tallness columns marks = record { heights = heights_by tallness columns; changing = marked marks }

-- how the ground lies, as the search is given it
abbrev pub relief_of : {G C : Type 0} → (C → ℕ) → Terrain G C → Relief
relief_of tallness terrain = relief_by tallness terrain.columns.now terrain.marks.now

-- the steps home that were found for a column
abbrev pub steps_in : Ways → ℕ → Option ℕ
steps_in w c = label w.steps c
