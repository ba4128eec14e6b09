-- What a sheet is read as, and why one is refused: the rules of reading, line by line. Assumes nothing.
use Rattle.std.specs.Prelude.{ℕ, zero, suc, ◌-◌, ◌*◌, ◌/◌, ◌%◌, ◌<◌, Bool, false, not, ◌&&◌, ◌||◌, List, [], ◌∷◌, ◌++◌, length, take, drop, Some, None, Option, ◌==◌, nat_le, nat_lt, slice_index_or}
use Rattle.terms.specs.Durations.{SiteSettings}
use Rattle.terms.specs.Refusals.{Told, told, first_of, from_on}
use Rattle.terms.specs.declared.refusal.Rule.TheVariants.{SheetShape, GoalMisplaced, EndMisplaced}
use Rattle.ground.specs.Meaning.{Meaning}
use Rattle.sheet.specs.declared.record.ActLine.{ActLine}
use Rattle.sheet.specs.declared.record.Record.{Record}
use Rattle.sheet.specs.declared.record.Record.TheVariants.{Goal, Act, Note, End}
use Rattle.sheet.specs.declared.target.Target.{Target}
use Rattle.sheet.specs.Lines.{record_in}
use Rattle.sheet.specs.Kinds.{line_tests}

-- line i of a sheet, counted from 0
abbrev pub line_at : List ℕ → ℕ → List ℕ
line_at sheet i = take 35 (drop (35 * i) sheet)

abbrev pub lines_in : List ℕ → ℕ
lines_in sheet = length sheet / 35

-- no bytes, no whole lines, or over 1,500 lines
abbrev pub bad_sheet : List ℕ → Bool
bad_sheet sheet = length sheet == 0 || (not (length sheet % 35 == 0) || nat_lt 1500 (lines_in sheet))

abbrev pub goals_of : Option Record → List Target
goals_of None = []
goals_of (Some (Goal c h)) = record { column = c; height = h } ∷ []
goals_of (Some (Act a)) = []
goals_of (Some Note) = []
goals_of (Some (End n)) = []

abbrev pub acts_of : Option Record → List ActLine
acts_of None = []
acts_of (Some (Goal c h)) = []
acts_of (Some (Act a)) = a ∷ []
acts_of (Some Note) = []
acts_of (Some (End n)) = []

-- what line i shows
abbrev pub shown_at : List ℕ → ℕ → Option Record
shown_at sheet i = record_in (suc i) (line_at sheet i)

-- the targets and the actions that the first n lines show
abbrev pub targets : List ℕ → ℕ → List Target
targets sheet zero = []
targets sheet (suc n) = targets sheet n ++ goals_of (shown_at sheet n)

abbrev pub acts : List ℕ → ℕ → List ActLine
acts sheet zero = []
acts sheet (suc n) = acts sheet n ++ acts_of (shown_at sheet n)

-- whether column c is above that of the last target, if there is one
abbrev pub rises : List Target → ℕ → Bool
rises ts c = length ts == 0 || nat_lt (slice_index_or ts (length ts - 1) (record { column = 0; height = 0 })).column c

-- whether a target fits behind these targets and this number of actions
abbrev pub goal_fits : Meaning → SiteSettings → List Target → ℕ → ℕ → ℕ → Bool
goal_fits m s ts n c h = n == 0 && (rises ts c && (nat_lt c m.columns && (not (m.border c) && (nat_le 1 h && nat_lt h s.levels))))

abbrev pub goal_misplaced : Meaning → SiteSettings → List Target → ℕ → Option Record → Bool
goal_misplaced m s ts n None = false
goal_misplaced m s ts n (Some (Goal c h)) = not (goal_fits m s ts n c h)
goal_misplaced m s ts n (Some (Act a)) = false
goal_misplaced m s ts n (Some Note) = false
goal_misplaced m s ts n (Some (End k)) = false

-- an END above the last line, a last line that is none, or one with another count than n
abbrev pub end_misplaced : Bool → ℕ → Option Record → Bool
end_misplaced last n None = last
end_misplaced last n (Some (Goal c h)) = last
end_misplaced last n (Some (Act a)) = last
end_misplaced last n (Some Note) = last
end_misplaced last n (Some (End k)) = not (last && k == n)

-- what refuses a record in its place: line is its number
abbrev pub place_tests : Meaning → SiteSettings → ℕ → Bool → List Target → ℕ → Option Record → List (Bool × Told)
place_tests m s line last ts n r =
    (goal_misplaced m s ts n r, told GoalMisplaced line 0) ∷ (end_misplaced last n r, told EndMisplaced line 0) ∷ []

-- what refuses line i of a sheet, in the order of precedence
abbrev pub tests_at : Meaning → SiteSettings → List ℕ → ℕ → List (Bool × Told)
tests_at m s sheet i =
    line_tests (suc i) (line_at sheet i)
    ++ place_tests m s (suc i) (suc i == lines_in sheet) (targets sheet i) (length (acts sheet i)) (shown_at sheet i)

-- why a sheet is refused: its shape, and then its earliest line that breaks a rule
unfoldable pub reading_refusal : Meaning → SiteSettings → List ℕ → Option Told
reading_refusal m s sheet = first_of ((bad_sheet sheet, told SheetShape 0 0) ∷ from_on (tests_at m s sheet) 0 (lines_in sheet))

-- a target that is shown fits its types
abbrev pub Small : Record → Type 0
Small (Goal c h) = (c < 256) × (h < 256)
Small (Act a) = Unit {0}
Small Note = Unit {0}
Small (End n) = Unit {0}
