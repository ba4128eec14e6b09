-- What the program answers, in words. Assumes nothing.
use Rattle.std.specs.Prelude.{◌≡◌, ℕ, ◌<◌, List, [], ◌∷◌, ◌++◌, map, length, Ok, Err, codes, Result}
use Rattle.terms.specs.Ranges.{settings_from, settings_reasons}
use Rattle.terms.specs.Refusals.{Reason, Silent, Speaks, Told, told}
use Rattle.terms.specs.declared.refusal.Rule.TheVariants.{SheetShape, LineShape, FieldUnreadable, NoWayHome}
use Rattle.ground.specs.Squared.{square_reasons, squared}
use Rattle.std.specs.List.{range_with_len}
use Rattle.sheet.specs.View.{records_in}
use Rattle.plan.specs.Plan.{line}
use Rattle.plan.specs.Rules.{target_of}
use Rattle.play.specs.Strands.{Strands, StrandsLowest}
use Rattle.draw.specs.Rows.{text}
use Rattle.judge.specs.Figures.{Figures}
use Rattle.judge.specs.Reasons.{judging_reasons}
use Rattle.job.specs.declared.order.Order.{Order}
use Rattle.job.specs.Jobs.{first_line, order, sheet_in}
use Rattle.job.specs.OrderLine.{JobLine}
use Rattle.job.specs.Replies.{ground_of, plan_in, row, told_row}

-- why no ground or no settings can be made of a job's numbers, and why its sheet is refused
abbrev pub after_line : Result Order ℕ → List ℕ → List Reason
after_line (Err k) sheet = []
after_line (Ok o) sheet =
    square_reasons o.x o.y
    ++ (settings_reasons o.levels o.robots o.set
    ++ judging_reasons (squared o.x o.y) (settings_from o.levels o.robots o.set) sheet)

abbrev pub unread_field : Result Order ℕ → ℕ
unread_field (Ok o) = 0
unread_field (Err k) = k

-- the reasons to refuse a job, in the order of precedence
unfoldable pub job_reasons : List ℕ → List Reason
job_reasons input =
    record { holds = length input < 35; tells = told SheetShape 0 0 }
    ∷ record { holds = JobLine (first_line input) → ⊥; tells = told LineShape 0 0 }
    ∷ record { holds = (k : ℕ) × (order input ≡ Err k); tells = told FieldUnreadable 0 (unread_field (order input)) }
    ∷ after_line (order input) (sheet_in input)

-- the targets of a job's sheet, in column order
abbrev pub targets_in : List ℕ → List ℕ
targets_in input = map (target_of (records_in (sheet_in input)).targets) (range_with_len 0 (ground_of (order input)).columns)

-- a fault is the first reason that holds; where none does, a plan is held at its first action that would leave a robot no way
-- home, with the lowest such column, or, where there is none, its figures are printed, and its targets as the heights then
pub data Verdict (input : List ℕ) : List ℕ → Type 0 where
  refused : (t : Told) → Speaks (job_reasons input) t → Verdict input (told_row (codes "BAD ") t)
  held : Silent (job_reasons input) → (i c : ℕ) → StrandsLowest (ground_of (order input)) (plan_in input) i c
      → ((j d : ℕ) → j < i → Strands (ground_of (order input)) (plan_in input) j d → ⊥)
      → Verdict input (told_row (codes "HELD") (told NoWayHome (line (plan_in input) i).line c))
  accepted : Silent (job_reasons input) → ((j d : ℕ) → Strands (ground_of (order input)) (plan_in input) j d → ⊥)
      → (makespan costs most : ℕ) → Figures (plan_in input) makespan costs most
      → Verdict input (row (codes "OK  ") makespan costs most ++ text (targets_in input))
