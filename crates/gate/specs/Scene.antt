-- A site as one plain value that knows no type of ground; past its columns all is free, at height 0. Assumes nothing.
use Rattle.std.specs.Prelude.{ℕ, zero, suc, ◌+◌, Bool, true, false, cond, ◌||◌, List, map, replicate, ◌==◌, nat_lt, slice_index, slice_index_or, slice_set}
use Rattle.std.specs.List.{range_with_len}
use Rattle.terms.specs.Durations.{SiteSettings}
use Rattle.ground.specs.Meaning.{Meaning}
use Rattle.ways.specs.Way.{Relief}
use Rattle.ways.specs.View.{marked}
use Rattle.gate.specs.declared.column.Column.{Column}
use Rattle.gate.specs.declared.column.Part.{Part}
use Rattle.gate.specs.declared.column.State.{State}
use Rattle.gate.specs.declared.column.State.TheVariants.{Busy}
use Rattle.gate.specs.Column.{column, fresh, facing, robot, carries, changes, goes_out, ticked}

abbrev pub Columns : Type 0
Columns = List Column

-- the marks are bytes, one for each of the most columns that a ground may have; 0 says that the column is settled
pub record Scene : Type 0 where
  pub meaning : Meaning
  pub settings : SiteSettings
  pub columns : Columns
  pub marks : List ℕ

abbrev pub with_columns : Scene → Columns → Scene
with_columns v xs = record { meaning = v.meaning; settings = v.settings; columns = xs; marks = v.marks }

abbrev pub with_marks : Scene → List ℕ → Scene
with_marks v ms = record { meaning = v.meaning; settings = v.settings; columns = v.columns; marks = ms }

abbrev pub at : Columns → ℕ → Column
at xs c = slice_index_or xs c fresh

abbrev pub height_at : Columns → ℕ → ℕ
height_at xs c = (at xs c).height

abbrev pub state_at : Columns → ℕ → State
state_at xs c = (at xs c).state

abbrev pub put : Columns → ℕ → State → Columns
put xs c state = slice_set xs c (column (height_at xs c) state)

-- column c begins its part of an action with column d, for n ticks; d begins the facing part
abbrev pub begin : Columns → ℕ → ℕ → Part → ℕ → Columns
begin xs c d part n = put (put xs c (Busy part n)) d (Busy (facing c part) n)

abbrev pub tick_all : Columns → Columns
tick_all xs = map ticked xs

-- how the ground lies, by the columns and by which of them are changing
abbrev pub lying : Columns → (ℕ → Bool) → Relief
lying xs changing = record { heights = height_at xs; changing = changing }

abbrev pub relief : Scene → Relief
relief v = lying v.columns (marked v.marks)

-- how it lies with column d changing too
abbrev pub tried : Scene → ℕ → Relief
tried v d = lying v.columns (λ c. (c == d) || marked v.marks c)

-- sums and counts over the numbers below n
abbrev pub sum_below : (ℕ → ℕ) → ℕ → ℕ
sum_below f zero = 0
sum_below f (suc n) = f n + sum_below f n

abbrev pub one_if : Bool → ℕ
one_if true = 1
one_if false = 0

abbrev pub any_below : (ℕ → Bool) → ℕ → Bool
any_below p zero = false
any_below p (suc n) = p n || any_below p n

abbrev pub robots : Meaning → Columns → ℕ
robots m xs = sum_below (λ c. one_if (robot (state_at xs c))) m.columns

abbrev pub blocks_standing : Meaning → Columns → ℕ
blocks_standing m xs = sum_below (height_at xs) m.columns

abbrev pub blocks_carried : Meaning → Columns → ℕ
blocks_carried m xs = sum_below (λ c. one_if (carries (state_at xs c))) m.columns

-- blocks that are carried out at this tick
abbrev pub blocks_leaving : Meaning → Columns → ℕ
blocks_leaving m xs = sum_below (λ c. one_if (goes_out (state_at xs c))) m.columns

-- the mark that says what the column's state says
abbrev pub mark_of : Columns → ℕ → ℕ
mark_of xs c = one_if (changes (state_at xs c))

-- marks that say of the columns before an end what their states say
abbrev pub renewed_marks : ℕ → Columns → List ℕ → List ℕ
renewed_marks end xs ms = map (λ c. cond (nat_lt c end) (mark_of xs c) (slice_index ms c)) (range_with_len 0 256)

-- a site as it opens: no robot, all heights 0, nothing changing
abbrev pub opened : Meaning → SiteSettings → Scene
opened m s = record { meaning = m; settings = s; columns = replicate m.columns fresh; marks = replicate 256 0 }
