-- The drawing of a site: its columns in order, so many to a row. Assumes nothing.
use Rattle.std.specs.Prelude.{ℕ, ◌%◌, cond, List, [], ◌∷◌, ◌++◌, codes, decimal, true, false, ◌==◌}
use Rattle.std.specs.List.{flat_map, range_with_len}
use Rattle.gate.specs.declared.column.Column.{Column}
use Rattle.gate.specs.declared.column.Part.{Part}
use Rattle.gate.specs.declared.column.Part.TheVariants.{Entering, Leaving, Departing, Arriving, Laying, Rising, Lifting, Sinking}
use Rattle.gate.specs.declared.column.State.{State}
use Rattle.gate.specs.declared.column.State.TheVariants.{Free, Standing, Busy}
use Rattle.gate.specs.Scene.{Scene, at, blocks_carried, blocks_standing, robots}
use Rattle.draw.specs.Places.{justified}

-- the marks: + - > < d ^ u v of the parts of actions, . of a free column, r and b of a robot without and with a block
abbrev pub part_mark : Part → ℕ
part_mark (Entering block) = 43
part_mark (Leaving block) = 45
part_mark (Departing block to) = 62
part_mark (Arriving block from) = 60
part_mark (Laying to) = 100
part_mark (Rising from) = 94
part_mark (Lifting to) = 117
part_mark (Sinking from) = 118

abbrev pub mark : State → ℕ
mark Free = 46
mark (Standing false) = 114
mark (Standing true) = 98
mark (Busy part n) = part_mark part

-- the cell of column c in rows of w: a newline and the number of the column in front of the first cell of a row
abbrev pub cell : ℕ → ℕ → Column → List ℕ
cell w c x = cond (c % w == 0) (10 ∷ justified 6 c) [] ++ (justified 3 x.height ++ mark x.state ∷ [])

abbrev pub drawing : ℕ → Scene → List ℕ
drawing w v = flat_map (λ c. cell w c (at v.columns c)) (range_with_len 0 v.meaning.columns)

-- how many robots and blocks there are
abbrev pub counts_text : Scene → List ℕ
counts_text v =
    codes "robots " ++ (decimal (robots v.meaning v.columns)
    ++ (codes ", blocks standing " ++ (decimal (blocks_standing v.meaning v.columns)
    ++ (codes ", blocks carried " ++ decimal (blocks_carried v.meaning v.columns)))))
