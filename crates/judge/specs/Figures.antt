-- The figures of a plan: as they are computed, and what they are in words. Assumes nothing.
use Rattle.std.specs.Prelude.{◌≡◌, ℕ, ◌-◌, ◌<◌, ◌≤◌, max, ◌⊎◌, List, [], ◌∷◌, length, sum_by, count_by}
use Rattle.plan.specs.Plan.{Action, line, makespan, runs}

-- what an action costs
abbrev pub cost : Action → ℕ
cost a = a.end - a.start

-- the sum of the costs
abbrev pub costs_of : List Action → ℕ
costs_of plan = sum_by cost plan

-- the largest of a number of each action, 0 for none
abbrev pub largest : (Action → ℕ) → List Action → ℕ
largest g [] = 0
largest g (a ∷ rest) = max (g a) (largest g rest)

-- how many actions of the plan run at the start of an action
abbrev pub beside : List Action → Action → ℕ
beside plan a = count_by (runs a.start) plan

-- the most at any start
abbrev pub most_at_once : List Action → ℕ
most_at_once plan = largest (beside plan) plan

-- the three figures are those that are computed
pub record Computed (plan : List Action) (makespan_is costs_are most_is : ℕ) : Type 0 where
  pub makespan_so : makespan_is ≡ makespan plan
  pub costs_so : costs_are ≡ costs_of plan
  pub most_so : most_is ≡ most_at_once plan

pub record Figures (plan : List Action) (makespan costs most : ℕ) : Type 0 where
  -- the makespan is the largest end, 0 for no actions
  pub all_end : (i : ℕ) → i < length plan → (line plan i).end ≤ makespan
  pub one_ends : ((length plan ≡ 0) × (makespan ≡ 0)) ⊎ ((i : ℕ) × (i < length plan) × ((line plan i).end ≡ makespan))
  -- the costs are end less start of all actions, entries too
  pub summed : costs ≡ sum_by (λ (a : Action). a.end - a.start) plan
  -- the most robots at once are reached at some time, and exceeded at none
  pub reached : (t : ℕ) × (count_by (runs t) plan ≡ most)
  pub never_more : (t : ℕ) → count_by (runs t) plan ≤ most
