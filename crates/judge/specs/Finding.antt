-- What searches over actions find, the first of some kind and the lowest column; and what is kept of actions that were judged.
-- Assumes nothing.
use Rattle.std.specs.Prelude.{◌≡◌, ℕ, ◌+◌, ◌<◌, ◌≤◌, min, Bool, true, cond, not, ◌&&◌, ◌≢◌, List, [], ◌∷◌, length, take, count_by, slice_index_or, slice_set, Some, None, Option, nat_le, nat_lt}
use Rattle.std.specs.Option.{option_map}
use Rattle.terms.specs.declared.work.Work.TheVariants.{Leave}
use Rattle.ground.specs.Meaning.{Meaning}
use Rattle.plan.specs.Plan.{Action, carried, end_column, is_leave, line}
use Rattle.plan.specs.Rules.{Carried}
use Rattle.judge.specs.Judging.{latest_start}

-- the first that passes a test
abbrev pub find : {X : Type 0} → (X → Bool) → List X → Option X
find p [] = None
find p (x ∷ xs) = cond (p x) (Some x) (find p xs)

abbrev pub line_in : Option Action → Option ℕ
line_in o = option_map (λ a. a.line) o

-- the lower of a column and what is the lowest so far
abbrev pub lower_of : Option ℕ → ℕ → ℕ
lower_of None c = c
lower_of (Some d) c = min d c

-- the lowest end column of those that pass a test, if there are any
abbrev pub Lowest : (Action → Bool) → List Action → Option ℕ → Type 0
Lowest p xs None = (i : ℕ) → i < length xs → p (line xs i) ≢ true
Lowest p xs (Some c) =
    ((i : ℕ) × (i < length xs) × (p (line xs i) ≡ true) × (end_column (line xs i) ≡ c))
    × ((i : ℕ) → i < length xs → p (line xs i) ≡ true → c ≤ end_column (line xs i))

-- an action, no leave, that ended at `since` or later and before `until` and is not carried on
abbrev pub left_between : List Action → ℕ → ℕ → Action → Bool
left_between above since until b =
    not (is_leave b.work) && (nat_le since b.end && (nat_lt b.end until && not (carried above b.end (end_column b))))

-- actions that broke no rule so far: their columns are on the ground, and those that ended before the last start are carried on
pub record Settled (m : Meaning) (above : List Action) : Type 0 where
  pub grounded : (i : ℕ) → i < length above → end_column (line above i) < m.columns
  pub carried_on : (i : ℕ) → i < length above → (line above i).work ≢ Leave → (line above i).end < latest_start above
      → Carried above (line above i).end (end_column (line above i))

-- the first n actions ended before the time t
pub record Passed (plan : List Action) (t n : ℕ) : Type 0 where
  pub within : n ≤ length plan
  pub ordered : (i : ℕ) → i < n → (line plan i).start < (line plan i).end
  pub ended : (i : ℕ) → i < n → (line plan i).end < t

-- the first n actions, which end before the time t, count for each column as a list of numbers says, from t on
pub record Tally (p : ℕ → ℕ → Action → Bool) (plan : List Action) (t n : ℕ) (counts : List ℕ) : Type 0 where
  pub wide : length counts ≡ 256
  pub counted : (c u : ℕ) → c < 256 → t ≤ u → count_by (p u c) (take n plan) ≡ slice_index_or counts c 0

-- one more at the column c
abbrev pub raised : List ℕ → ℕ → List ℕ
raised counts c = slice_set counts c (slice_index_or counts c 0 + 1)
