-- The fewest steps home of each column, found by rounds over a table. Assumes nothing.
use Rattle.std.specs.Prelude.{◌≡◌, ℕ, zero, suc, Bool, false, cond, not, ◌&&◌, List, map, is_some, Some, None, Option, ◌==◌, nat_le, nat_lt, slice_index_or}
use Rattle.std.specs.List.{range_with_len}
use Rattle.ground.specs.Meaning.{Meaning}
use Rattle.ways.specs.Way.{Relief}

abbrev pub Table : Type 0
Table = List (Option ℕ)

abbrev pub label : Table → ℕ → Option ℕ
label t c = slice_index_or t c None

abbrev pub is_label : Option ℕ → ℕ → Bool
is_label None n = false
is_label (Some k) n = k == n

abbrev pub near : ℕ → ℕ → Bool
near a b = nat_le b (suc a) && nat_le a (suc b)

-- the lowest number below n that passes a test
abbrev pub or_at : Option ℕ → Bool → ℕ → Option ℕ
or_at (Some k) b n = Some k
or_at None b n = cond b (Some n) None

abbrev pub first_below : (ℕ → Bool) → ℕ → Option ℕ
first_below p zero = None
first_below p (suc n) = or_at (first_below p n) (p n) n

-- d is within one height of c, and labelled n
abbrev pub fits : (ℕ → ℕ) → (ℕ → Option ℕ) → ℕ → ℕ → ℕ → Bool
fits heights labels n c d = near (heights c) (heights d) && is_label (labels d) n

-- and linked with it
abbrev pub lower : Meaning → (ℕ → ℕ) → (ℕ → Option ℕ) → ℕ → ℕ → ℕ → Bool
lower m heights labels n c d = m.linked c d && fits heights labels n c d

-- the lowest such column
abbrev pub lowest_beside : Meaning → (ℕ → ℕ) → (ℕ → Option ℕ) → ℕ → ℕ → Option ℕ
lowest_beside m heights labels n c = first_below (lower m heights labels n c) m.columns

-- a settled column without a label, beside one that is labelled n
abbrev pub gains : Meaning → Relief → (ℕ → Option ℕ) → ℕ → ℕ → Bool
gains m r labels n c = not (is_some (labels c)) && (not (r.changing c) && is_some (lowest_beside m r.heights labels n c))

abbrev pub first_label : Meaning → (ℕ → Bool) → ℕ → Option ℕ
first_label m changing c = cond (m.border c && not (changing c)) (Some 0) None

abbrev pub next_label : Meaning → Relief → (ℕ → Option ℕ) → ℕ → ℕ → Option ℕ
next_label m r labels n c = cond (gains m r labels n c) (Some (suc n)) (labels c)

-- a table in which the columns below c have new labels, and the others the old ones
abbrev pub Relabelled : (ℕ → Option ℕ) → (ℕ → Option ℕ) → Table → ℕ → Type 0
Relabelled new old t c = (e : ℕ) → label t e ≡ cond (nat_lt e c) (new e) (old e)

-- the table after n rounds
unfoldable pub after : Meaning → Relief → ℕ → Table
after m r zero = map (first_label m r.changing) (range_with_len 0 m.columns)
after m r (suc n) = map (next_label m r (label (after m r n)) n) (range_with_len 0 m.columns)

-- after as many rounds as there are columns nothing more is added
unfoldable pub steps : Meaning → Relief → ℕ → Option ℕ
steps m r c = label (after m r m.columns) c

-- the lowest column beside c that is one step nearer home, by the labels
abbrev pub nearer_by : Meaning → (ℕ → ℕ) → (ℕ → Option ℕ) → ℕ → Option ℕ → Option ℕ
nearer_by m heights labels c None = None
nearer_by m heights labels c (Some zero) = None
nearer_by m heights labels c (Some (suc n)) = lowest_beside m heights labels n c

abbrev pub nearer : Meaning → (ℕ → ℕ) → (ℕ → Option ℕ) → ℕ → Option ℕ
nearer m heights labels c = nearer_by m heights labels c (labels c)
