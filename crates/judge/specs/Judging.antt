-- What refuses a sheet that reads: the rules of each ACT line against those above it, and those of the sheet's end, in the order
-- of precedence. Assumes nothing.
use Rattle.std.specs.Prelude.{ℕ, suc, ◌-◌, min, max, Bool, not, ◌&&◌, ◌||◌, List, [], ◌∷◌, ◌++◌, length, take, count_by, Option, ◌==◌, nat_le, nat_lt}
use Rattle.terms.specs.Durations.{SiteSettings}
use Rattle.terms.specs.Refusals.{Told, told, first_of, from_on, or_else}
use Rattle.terms.specs.declared.refusal.Rule.TheVariants.{StartFalls, LeftStanding, WrongHeightsWritten, SpansCollide, FromNowhere, TooManySpans, LeftBehind, TargetMissed}
use Rattle.terms.specs.declared.work.Work.{Work}
use Rattle.terms.specs.declared.work.Work.TheVariants.{Entry, Leave, Wait, Move, PickUp, Deliver}
use Rattle.ground.specs.Meaning.{Meaning}
use Rattle.sheet.specs.Reading.{reading_refusal}
use Rattle.sheet.specs.View.{Records, records_in}
use Rattle.sheet.specs.declared.record.ActLine.{ActLine}
use Rattle.plan.specs.Lines.{written_action, alike, line_tests}
use Rattle.plan.specs.Plan.{Action, carried, carry_after, end_column, ends, height_at, is_entry, is_leave, line, makespan, runs, shares, some_of}
use Rattle.plan.specs.Rules.{written_plan, target_of, written}

-- when the last action starts, 0 where there is none
abbrev pub latest_start : List Action → ℕ
latest_start above = (line above (length above - 1)).start

-- the start is below that of the action before
abbrev pub falls : List Action → Action → Bool
falls above a = nat_lt a.start (latest_start above)

-- an action above, no leave, ended at the column c before the time t, and none above starts there then
abbrev pub left_by : List Action → ℕ → ℕ → Action → Bool
left_by above t c b = not (is_leave b.work) && (nat_lt b.end t && (end_column b == c && not (carried above b.end c)))

abbrev pub left_standing : List Action → ℕ → ℕ → Bool
left_standing above t c = some_of (left_by above t c) above

-- whether the heights h and k that are written for from and to are right, where the columns are f and o high
abbrev pub fits : Work → ℕ → ℕ → ℕ → ℕ → Bool
fits Entry h k f o = k == o
fits Leave h k f o = h == f
fits Wait h k f o = h == f && k == o
fits Move h k f o = h == f && (k == o && (nat_le k (suc h) && nat_le h (suc k)))
fits PickUp h k f o = h == f && (suc k == o && h == k)
fits Deliver h k f o = h == f && (k == o && h == k)

abbrev pub heights_fit : List Action → Action → Bool
heights_fit above a =
    fits a.work a.from_height a.to_height (height_at above a.start a.from) (height_at above a.start a.to)

-- some time is in both spans
abbrev pub overlap : Action → Action → Bool
overlap a b = nat_lt (max a.start b.start) (min a.end b.end)

abbrev pub collide : Action → Action → Bool
collide a b = overlap a b && shares a b

-- an entry, or an action above ends at this start, column and carry
abbrev pub goes_on_from : Action → Action → Bool
goes_on_from a b = ends a.start a.from b && alike (carry_after b) a.carry

abbrev pub from_somewhere : List Action → Action → Bool
from_somewhere above a = is_entry a.work || some_of (goes_on_from a) above

-- how many spans, this one among them, hold this start
abbrev pub crowd : List Action → Action → ℕ
crowd above a = count_by (runs a.start) (above ++ (a ∷ []))

-- what refuses action a below those above it
unfoldable pub judge_tests : Meaning → SiteSettings → List Action → Action → List (Bool × Told)
judge_tests m s above a =
    (falls above a, told StartFalls a.line 0)
    ∷ (from_on (λ c. (left_standing above a.start c, told LeftStanding a.line c) ∷ []) 0 m.columns
    ++ ((not (heights_fit above a), told WrongHeightsWritten a.line 0)
    ∷ (from_on (λ i. (collide (line above i) a, told SpansCollide a.line (line above i).line) ∷ []) 0 (length above)
    ++ ((not (from_somewhere above a), told FromNowhere a.line 0)
    ∷ ((nat_lt s.robots (crowd above a), told TooManySpans a.line 0) ∷ [])))))

-- what refuses ACT line k, counted from 0
abbrev pub tests_at : Meaning → SiteSettings → List ActLine → ℕ → List (Bool × Told)
tests_at m s acts k = line_tests m s (written acts k) ++ judge_tests m s (take k (written_plan acts)) (written_action (written acts k))

-- an action, no leave, from whose end column no action starts at its end
abbrev pub left_behind : List Action → Action → Bool
left_behind plan a = not (is_leave a.work) && not (carried plan a.end (end_column a))

-- the height of column c at time t is not its target
abbrev pub missed : List Action → (ℕ → ℕ) → ℕ → ℕ → Bool
missed plan targets t c = not (height_at plan t c == targets c)

-- what refuses a plan at the sheet's end, of so many lines
unfoldable pub end_tests : Meaning → List Action → (ℕ → ℕ) → ℕ → List (Bool × Told)
end_tests m plan targets lines =
    from_on (λ i. (left_behind plan (line plan i), told LeftBehind (line plan i).line 0) ∷ []) 0 (length plan)
    ++ from_on (λ c. (missed plan targets (makespan plan) c, told TargetMissed lines c) ∷ []) 0 m.columns

abbrev pub sheet_tests : Meaning → SiteSettings → Records → List (Bool × Told)
sheet_tests m s r =
    from_on (tests_at m s r.acts) 0 (length r.acts) ++ end_tests m (written_plan r.acts) (target_of r.targets) r.lines

-- why a sheet is refused: reading covers it whole, then its ACT lines one after another, then its end
unfoldable pub judging_refusal : Meaning → SiteSettings → List ℕ → Option Told
judging_refusal m s sheet = or_else (reading_refusal m s sheet) (first_of (sheet_tests m s (records_in sheet)))
