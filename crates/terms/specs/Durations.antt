-- How long each kind of work takes, and the four sets of durations. Assumes nothing.
use Rattle.std.specs.Prelude.{ℕ, Bool, true, false, cond, Some, None, Option, ◌==◌}
use Rattle.terms.specs.declared.work.Work.{Work}
use Rattle.terms.specs.declared.work.Work.TheVariants.{Entry, Leave, Wait, Move, PickUp, Deliver}

pub record Times : Type 0 where
  pub entry : ℕ
  pub leave : ℕ
  pub loaded : ℕ
  pub empty : ℕ
  pub pickup : ℕ
  pub deliver : ℕ

abbrev pub times : ℕ → ℕ → ℕ → ℕ → ℕ → ℕ → Times
times entry leave loaded empty pickup deliver =
    record { entry = entry; leave = leave; loaded = loaded; empty = empty; pickup = pickup; deliver = deliver }

-- entry, leave, move with a block, move without, pick up, deliver
abbrev pub duration_set : ℕ → Option Times
duration_set n =
    cond (n == 0) (Some (times 1 1 1 1 1 1))
    (cond (n == 1) (Some (times 2 1 1 1 2 2))
    (cond (n == 2) (Some (times 3 2 3 1 3 3))
    (cond (n == 3) (Some (times 3 3 3 2 2 3)) None)))

-- the same in words: the sets by their numbers
pub data IsSet : ℕ → Times → Type 0 where
  first : IsSet 0 (record { entry = 1; leave = 1; loaded = 1; empty = 1; pickup = 1; deliver = 1 })
  second : IsSet 1 (record { entry = 2; leave = 1; loaded = 1; empty = 1; pickup = 2; deliver = 2 })
  third : IsSet 2 (record { entry = 3; leave = 2; loaded = 3; empty = 1; pickup = 3; deliver = 3 })
  fourth : IsSet 3 (record { entry = 3; leave = 3; loaded = 3; empty = 2; pickup = 2; deliver = 3 })

-- how long a work takes, of a robot with or without a block
abbrev pub duration_of : Times → Work → Bool → ℕ
duration_of t Entry block = t.entry
duration_of t Leave block = t.leave
duration_of t Wait block = 1
duration_of t Move block = cond block t.loaded t.empty
duration_of t PickUp block = t.pickup
duration_of t Deliver block = t.deliver

-- and in words
pub data Takes (t : Times) : Work → Bool → ℕ → Type 0 where
  entry : (block : Bool) → Takes t Entry block t.entry
  leave : (block : Bool) → Takes t Leave block t.leave
  wait : (block : Bool) → Takes t Wait block 1
  move_loaded : Takes t Move true t.loaded
  move_empty : Takes t Move false t.empty
  pick_up : (block : Bool) → Takes t PickUp block t.pickup
  deliver : (block : Bool) → Takes t Deliver block t.deliver

-- the settings of a site: heights are below `levels`, and at most `robots` robots are on it
pub record SiteSettings : Type 0 where
  pub levels : ℕ
  pub robots : ℕ
  pub times : Times
