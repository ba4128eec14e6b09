-- Why a sheet is refused, in words: each rule of reading as what has to be the case. Assumes nothing.
use Rattle.std.specs.Prelude.{◌≡◌, ℕ, suc, ◌-◌, ◌%◌, ◌<◌, ◌≤◌, false, ◌⊎◌, List, [], ◌∷◌, length, Some, None, Option, ◌≢◌, slice_index, slice_index_or}
use Rattle.std.specs.Option.{unwrap_or}
use Rattle.std.specs.List.{AllByRecursion}
use Rattle.terms.specs.Durations.{SiteSettings}
use Rattle.terms.specs.Refusals.{Reason, told, from_on}
use Rattle.terms.specs.declared.refusal.Rule.TheVariants.{SheetShape, LineShape, FieldUnreadable, GoalMisplaced, EndMisplaced}
use Rattle.ground.specs.Meaning.{Meaning}
use Rattle.sheet.specs.declared.record.Record.{Record}
use Rattle.sheet.specs.declared.record.Record.TheVariants.{Goal, End}
use Rattle.sheet.specs.declared.target.Target.{Target}
use Rattle.sheet.specs.Lines.{Word, bad_field, fields, word}
use Rattle.sheet.specs.Reading.{acts, line_at, lines_in, shown_at, targets}

-- the sheet has no bytes, does not end with a whole line, or has over 1,500 lines
pub data BadSheet (sheet : List ℕ) : Type 0 where
  no_bytes : length sheet ≡ 0 → BadSheet sheet
  cut_short : (length sheet % 35 ≢ 0) → BadSheet sheet
  too_long : 1500 < lines_in sheet → BadSheet sheet

abbrev pub Printable : List ℕ → Type 0
Printable bs = AllByRecursion (λ b. (32 ≤ b) × (b ≤ 126)) bs

-- byte 35 of a line is no newline, its word is unknown, or it is a note that cannot be printed
pub data BadShape (l : List ℕ) : Type 0 where
  no_newline : (slice_index l 34 ≢ 10) → BadShape l
  no_word : word l ≡ None → BadShape l
  unprintable : word l ≡ Some Word.note → (Printable (fields l) → ⊥) → BadShape l

-- a target may stand behind these targets and this number of actions: above the last target, on an inner column, of a height from 1 to the highest
pub record GoalFits (m : Meaning) (s : SiteSettings) (ts : List Target) (n c h : ℕ) : Type 0 where
  pub before_actions : n ≡ 0
  pub rising : (length ts ≡ 0) ⊎ ((slice_index_or ts (length ts - 1) (record { column = 0; height = 0 })).column < c)
  pub on_ground : c < m.columns
  pub inner : m.border c ≡ false
  pub some_height : 1 ≤ h
  pub not_too_high : h < s.levels

pub data IsGoalMisplaced (m : Meaning) (s : SiteSettings) (ts : List Target) (n : ℕ) (r : Option Record) : Type 0 where
  goal_misplaced : (c h : ℕ) → r ≡ Some (Goal c h) → (GoalFits m s ts n c h → ⊥) → IsGoalMisplaced m s ts n r

-- the last line is not an END with the number of the actions, or another line is an END
pub data IsEndMisplaced (last : Type 0) (n : ℕ) (r : Option Record) : Type 0 where
  no_end : last → (r ≢ Some (End n)) → IsEndMisplaced last n r
  early_end : (last → ⊥) → (k : ℕ) → r ≡ Some (End k) → IsEndMisplaced last n r

-- the rules that line i may break, in the order of precedence
abbrev pub reasons_at : Meaning → SiteSettings → List ℕ → ℕ → List Reason
reasons_at m s sheet i =
    record { holds = BadShape (line_at sheet i); tells = told LineShape (suc i) 0 }
    ∷ record {
      holds = (k : ℕ) × (bad_field (suc i) (line_at sheet i) ≡ Some k);
      tells = told FieldUnreadable (suc i) (unwrap_or (bad_field (suc i) (line_at sheet i)) 0);
    }
    ∷ record { holds = IsGoalMisplaced m s (targets sheet i) (length (acts sheet i)) (shown_at sheet i); tells = told GoalMisplaced (suc i) 0 }
    ∷ record { holds = IsEndMisplaced (suc i ≡ lines_in sheet) (length (acts sheet i)) (shown_at sheet i); tells = told EndMisplaced (suc i) 0 }
    ∷ []

-- the shape of the sheet, then its lines, one after another
unfoldable pub reading_reasons : Meaning → SiteSettings → List ℕ → List Reason
reading_reasons m s sheet =
    record { holds = BadSheet sheet; tells = told SheetShape 0 0 } ∷ from_on (reasons_at m s sheet) 0 (lines_in sheet)
