-- The job line: the numbers of a square ground and of its settings, and why a job is refused. Assumes nothing.
use Rattle.std.specs.Prelude.{ℕ, Bool, not, ◌&&◌, List, [], ◌∷◌, length, take, drop, is_some, None, Ok, Err, Option, Result, ◌==◌, nat_lt, slice_index}
use Rattle.std.specs.Option.{unwrap_or}
use Rattle.std.specs.Result.{result_err}
use Rattle.terms.specs.Ranges.{settings_from, settings_refusal}
use Rattle.terms.specs.Refusals.{Told, first_of, or_else, told}
use Rattle.terms.specs.declared.refusal.Rule.TheVariants.{SheetShape, LineShape, FieldUnreadable}
use Rattle.ground.specs.Squared.{square_refusal, squared}
use Rattle.sheet.specs.Fields.{number_in}
use Rattle.sheet.specs.Lines.{fields, spelt}
use Rattle.sheet.specs.Records.{field, part}
use Rattle.judge.specs.Judging.{judging_refusal}
use Rattle.job.specs.declared.order.Order.{Order}

-- x, y, levels, robots and duration set, each six wide
abbrev pub order_in : List ℕ → Result Order ℕ
order_in fs =
    field 1 (number_in (part 0 6 fs)) (λ x.
    field 2 (number_in (part 6 6 fs)) (λ y.
    field 3 (number_in (part 12 6 fs)) (λ levels.
    field 4 (number_in (part 18 6 fs)) (λ robots.
    field 5 (number_in (part 24 6 fs)) (λ set.
    Ok (record { x = x; y = y; levels = levels; robots = robots; set = set }))))))

-- the first line of the input
abbrev pub first_line : List ℕ → List ℕ
first_line input = take 35 input

-- a line that begins with JOB and ends with a newline
abbrev pub is_job : List ℕ → Bool
is_job l = slice_index l 34 == 10 && spelt l 74 79 66 32

-- what the job line says
abbrev pub order : List ℕ → Result Order ℕ
order input = order_in (fields (first_line input))

-- a first line of under 35 bytes, one that is no job line, or one with a field that cannot be read
abbrev pub order_tests : List ℕ → List (Bool × Told)
order_tests input =
    (nat_lt (length input) 35, told SheetShape 0 0)
    ∷ (not (is_job (first_line input)), told LineShape 0 0)
    ∷ (is_some (result_err (order input)), told FieldUnreadable 0 (unwrap_or (result_err (order input)) 0))
    ∷ []

-- why no ground or no settings can be made of a job's numbers
abbrev pub making_refusal : Result Order ℕ → Option Told
making_refusal (Err k) = None
making_refusal (Ok o) = or_else (square_refusal o.x o.y) (settings_refusal o.levels o.robots o.set)

-- why the sheet of a job is refused: it cannot be read, or it breaks a rule
abbrev pub sheet_refusal : Result Order ℕ → List ℕ → Option Told
sheet_refusal (Err k) sheet = None
sheet_refusal (Ok o) sheet = judging_refusal (squared o.x o.y) (settings_from o.levels o.robots o.set) sheet

-- the sheet behind the job line
abbrev pub sheet_in : List ℕ → List ℕ
sheet_in input = drop 35 input

-- why a job is refused: its line, what is made of it, its sheet
abbrev pub job_refusal : List ℕ → Option Told
job_refusal input = or_else (first_of (order_tests input)) (or_else (making_refusal (order input)) (sheet_refusal (order input) (sheet_in input)))
