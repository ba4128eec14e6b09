-- Plans: actions, when they run, where they start and end, and how high they leave the columns. Assumes nothing.
use Rattle.std.specs.Prelude.{◌≡◌, ℕ, ◌-◌, ◌<◌, ◌≤◌, max, Bool, true, false, not, ◌&&◌, ◌||◌, ◌≢◌, ◌⊎◌, List, [], ◌∷◌, count_by, ◌==◌, nat_le, slice_index_or}
use Rattle.std.specs.List.{list_any}
use Rattle.terms.specs.declared.work.Work.{Work}
use Rattle.terms.specs.declared.work.Work.TheVariants.{Entry, Leave, Wait, Move, PickUp, Deliver}
use Rattle.plan.specs.Times.{held}

-- an action, of the line of a number. Its robot is at `from` (of an entry: the column entered); `to` is the other column, and is
-- `from` where there is no other
pub record Action : Type 0 where
  pub line : ℕ
  pub work : Work
  pub from : ℕ
  pub to : ℕ
  pub from_height : ℕ
  pub to_height : ℕ
  pub carry : Bool
  pub start : ℕ
  pub end : ℕ

abbrev pub no_action : Action
no_action = record { line = 0; work = Wait; from = 0; to = 0; from_height = 0; to_height = 0; carry = false; start = 0; end = 0 }

-- action i of a plan, counted from 0
abbrev pub line : List Action → ℕ → Action
line plan i = slice_index_or plan i no_action

abbrev pub is_entry : Work → Bool
is_entry Entry = true
is_entry Leave = false
is_entry Wait = false
is_entry Move = false
is_entry PickUp = false
is_entry Deliver = false

abbrev pub is_leave : Work → Bool
is_leave Entry = false
is_leave Leave = true
is_leave Wait = false
is_leave Move = false
is_leave PickUp = false
is_leave Deliver = false

abbrev pub is_pick_up : Work → Bool
is_pick_up Entry = false
is_pick_up Leave = false
is_pick_up Wait = false
is_pick_up Move = false
is_pick_up PickUp = true
is_pick_up Deliver = false

abbrev pub is_deliver : Work → Bool
is_deliver Entry = false
is_deliver Leave = false
is_deliver Wait = false
is_deliver Move = false
is_deliver PickUp = false
is_deliver Deliver = true

abbrev pub end_column_of : Work → ℕ → ℕ → ℕ
end_column_of Entry f o = f
end_column_of Leave f o = f
end_column_of Wait f o = f
end_column_of Move f o = o
end_column_of PickUp f o = f
end_column_of Deliver f o = f

abbrev pub carry_after_of : Work → Bool → Bool
carry_after_of Entry b = b
carry_after_of Leave b = b
carry_after_of Wait b = b
carry_after_of Move b = b
carry_after_of PickUp b = true
carry_after_of Deliver b = false

-- where the robot of an action that is no leave stands after it, and with what
abbrev pub end_column : Action → ℕ
end_column a = end_column_of a.work a.from a.to

abbrev pub carry_after : Action → Bool
carry_after a = carry_after_of a.work a.carry

-- the span holds the time t
pub record Runs (a : Action) (t : ℕ) : Type 0 where
  pub begun : a.start ≤ t
  pub before_end : t < a.end

abbrev pub runs : ℕ → Action → Bool
runs t a = held a.start a.end t

abbrev pub Touches : Action → ℕ → Type 0
Touches a c = (a.from ≡ c) ⊎ (a.to ≡ c)

abbrev pub shares : Action → Action → Bool
shares a b = a.from == b.from || (a.from == b.to || (a.to == b.from || a.to == b.to))

-- the action, no leave, ends at the time t at the column c
pub record Ends (a : Action) (t c : ℕ) : Type 0 where
  pub no_leave : a.work ≢ Leave
  pub when : a.end ≡ t
  pub where_to : end_column a ≡ c

-- the action, no entry, starts at the time t from the column c
pub record Starts (a : Action) (t c : ℕ) : Type 0 where
  pub no_entry : a.work ≢ Entry
  pub when : a.start ≡ t
  pub where_from : a.from ≡ c

abbrev pub ends : ℕ → ℕ → Action → Bool
ends t c a = not (is_leave a.work) && (a.end == t && end_column a == c)

abbrev pub starts : ℕ → ℕ → Action → Bool
starts t c a = not (is_entry a.work) && (a.start == t && a.from == c)

-- whether some element of a list passes a test
abbrev pub some_of : {X : Type 0} → (X → Bool) → List X → Bool
some_of p xs = list_any p xs

-- whether some action of the plan starts at the time t from the column c
abbrev pub carried : List Action → ℕ → ℕ → Bool
carried plan t c = some_of (starts t c) plan

-- delivered to the column c by the time t; picked up from it
abbrev pub delivers : ℕ → ℕ → Action → Bool
delivers t c a = is_deliver a.work && (a.to == c && nat_le a.end t)

abbrev pub picks : ℕ → ℕ → Action → Bool
picks t c a = is_pick_up a.work && (a.to == c && nat_le a.end t)

-- the height of column c at time t
abbrev pub height_at : List Action → ℕ → ℕ → ℕ
height_at plan t c = count_by (delivers t c) plan - count_by (picks t c) plan

-- the largest end, 0 for no action
abbrev pub makespan : List Action → ℕ
makespan [] = 0
makespan (a ∷ rest) = max a.end (makespan rest)
