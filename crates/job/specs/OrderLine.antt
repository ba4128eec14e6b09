-- How a job line is written, and which of its fields cannot be read. Assumes nothing.
use Rattle.std.specs.Prelude.{◌≡◌, ℕ, ◌^◌, ◌<◌, ◌↔◌, List, [], ◌∷◌, ◌++◌, length, take, Ok, Err, codes, decimal, slice_index_or}
use Rattle.sheet.specs.Lines.{fields}
use Rattle.sheet.specs.Readable.{FirstUnread, ShowsNumber}
use Rattle.sheet.specs.Records.{part}
use Rattle.sheet.specs.Written.{right}
use Rattle.job.specs.declared.order.Order.{Order}
use Rattle.job.specs.Jobs.{order_in}

-- the line begins with JOB and a space, and its byte 35 is a newline
pub record JobLine (l : List ℕ) : Type 0 where
  pub newline : slice_index_or l 34 0 ≡ 10
  pub word : take 4 l ≡ codes "JOB "

-- X, Y, levels, robots and duration set, each to the right of six places
pub record WritesOrder (o : Order) (l : List ℕ) : Type 0 where
  pub x : o.x < 10 ^ 6
  pub y : o.y < 10 ^ 6
  pub levels : o.levels < 10 ^ 6
  pub robots : o.robots < 10 ^ 6
  pub set : o.set < 10 ^ 6
  pub text : l ≡ codes "JOB " ++ (right 6 (decimal o.x) ++ (right 6 (decimal o.y) ++ (right 6 (decimal o.levels) ++ (right 6 (decimal o.robots)
      ++ (right 6 (decimal o.set) ++ (10 ∷ []))))))

-- a job line is read as an order exactly where it is that order written out, and the field that is told is the first that shows
-- no number
pub record OrderAsWritten : Type 0 where
  pub read : (l : List ℕ) → length l ≡ 35 → JobLine l → (o : Order) → order_in (fields l) ≡ Ok o → WritesOrder o l
  pub written : (l : List ℕ) (o : Order) → WritesOrder o l → JobLine l × (order_in (fields l) ≡ Ok o)
  pub unread : (l : List ℕ) → length l ≡ 35 → (k : ℕ) → (order_in (fields l) ≡ Err k)
      ↔ FirstUnread 1 (ShowsNumber 6 (part 0 6 (fields l)) ∷ ShowsNumber 6 (part 6 6 (fields l)) ∷ ShowsNumber 6 (part 12 6 (fields l))
      ∷ ShowsNumber 6 (part 18 6 (fields l)) ∷ ShowsNumber 6 (part 24 6 (fields l)) ∷ []) (Unit {0}) k
