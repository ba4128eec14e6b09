-- The whole answer of the program, from bytes to bytes. Assumes nothing.
use Rattle.std.specs.Prelude.{ℕ, List, [], ◌∷◌, ◌++◌, map, Some, None, Ok, Err, codes, Option, Result}
use Rattle.std.specs.List.{range_with_len}
use Rattle.terms.specs.Ranges.{settings_from}
use Rattle.terms.specs.Refusals.{Told}
use Rattle.ground.specs.Meaning.{Meaning}
use Rattle.ground.specs.Squared.{squared}
use Rattle.gate.specs.Scene.{Scene, height_at, opened}
use Rattle.plan.specs.Plan.{Action, makespan}
use Rattle.judge.specs.Figures.{costs_of, most_at_once}
use Rattle.judge.specs.Verdict.{sheet_plan}
use Rattle.play.specs.Play.{Outcome, play_on}
use Rattle.draw.specs.Rows.{text}
use Rattle.job.specs.declared.order.Order.{Order}
use Rattle.job.specs.Jobs.{job_refusal, order, sheet_in}
use Rattle.job.specs.Text.{cells}

-- a word and three numbers, six wide each
abbrev pub row : List ℕ → ℕ → ℕ → ℕ → List ℕ
row word a b c = word ++ cells a ++ cells b ++ cells c ++ 10 ∷ []

-- what is printed of a refusal: its number, line and detail
abbrev pub told_row : List ℕ → Told → List ℕ
told_row word t = row word t.number t.line t.detail

-- what is printed of an accepted plan: makespan, sum-of-costs and most robots at once
abbrev pub ok_row : List Action → List ℕ
ok_row plan = row (codes "OK  ") (makespan plan) (costs_of plan) (most_at_once plan)

-- the plan of a job's sheet
abbrev pub plan_in : List ℕ → List Action
plan_in input = sheet_plan (sheet_in input)

-- the site of a job as it opens
abbrev pub order_site : Result Order ℕ → Scene
order_site (Ok o) = opened (squared o.x o.y) (settings_from o.levels o.robots o.set)
order_site (Err k) = opened (squared 1 1) (settings_from 1 1 0)

-- what comes of playing the plan of a job there
abbrev pub outcome : List ℕ → Outcome
outcome input = play_on (plan_in input) (order_site (order input))

-- the ground of a job
abbrev pub ground_of : Result Order ℕ → Meaning
ground_of (Ok o) = squared o.x o.y
ground_of (Err k) = squared 1 1

-- the heights of the first n columns of a site, in order
abbrev pub heights : ℕ → Scene → List ℕ
heights n v = map (height_at v.columns) (range_with_len 0 n)

-- what is printed of an accepted plan that was played on n columns: its figures and the drawing, or why it was stopped
abbrev pub played_reply : ℕ → List Action → Option Told → Scene → List ℕ
played_reply n plan None v = ok_row plan ++ text (heights n v)
played_reply n plan (Some t) v = told_row (codes "HELD") t

abbrev pub reply : Option Told → List ℕ → List ℕ
reply None answer = answer
reply (Some t) answer = told_row (codes "BAD ") t

unfoldable pub answered : List ℕ → List ℕ
answered input = reply (job_refusal input) (played_reply (ground_of (order input)).columns (plan_in input) (outcome input).answer (outcome input).site)
