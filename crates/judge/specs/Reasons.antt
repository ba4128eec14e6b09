-- Why a sheet is refused, in words: each rule of judging as what has to be the case. Assumes nothing.
use Rattle.std.specs.Prelude.{◌≡◌, ℕ, ◌<◌, ◌≢◌, List, [], ◌∷◌, ◌++◌, length, take}
use Rattle.terms.specs.Durations.{SiteSettings}
use Rattle.terms.specs.Refusals.{Reason, told, from_on}
use Rattle.terms.specs.declared.refusal.Rule.TheVariants.{StartFalls, LeftStanding, WrongHeightsWritten, SpansCollide, FromNowhere, TooManySpans, LeftBehind, TargetMissed}
use Rattle.terms.specs.declared.work.Work.TheVariants.{Entry, Leave}
use Rattle.ground.specs.Meaning.{Meaning}
use Rattle.sheet.specs.Reasons.{reading_reasons}
use Rattle.sheet.specs.View.{Records, records_in}
use Rattle.sheet.specs.declared.record.ActLine.{ActLine}
use Rattle.plan.specs.Judged.{Collide, InOrder, IsLeftStanding}
use Rattle.plan.specs.Lines.{written_action}
use Rattle.plan.specs.Plan.{Action, end_column, height_at, line, makespan}
use Rattle.plan.specs.Reasons.{line_reasons}
use Rattle.plan.specs.Rules.{Carried, Follows, Heights, written_plan, target_of, written}
use Rattle.judge.specs.Judging.{crowd}

-- the rules that action a may break against those above it, in the order of precedence
unfoldable pub judge_reasons : Meaning → SiteSettings → List Action → Action → List Reason
judge_reasons m s above a =
    record { holds = InOrder above a → ⊥; tells = told StartFalls a.line 0 }
    ∷ (from_on (λ c. record { holds = IsLeftStanding above a.start c; tells = told LeftStanding a.line c } ∷ []) 0 m.columns
    ++ (record { holds = Heights above a → ⊥; tells = told WrongHeightsWritten a.line 0 }
    ∷ (from_on (λ i. record { holds = Collide (line above i) a; tells = told SpansCollide a.line (line above i).line } ∷ []) 0 (length above)
    ++ (record { holds = (a.work ≢ Entry → Follows above (length above) a) → ⊥; tells = told FromNowhere a.line 0 }
    ∷ (record { holds = s.robots < crowd above a; tells = told TooManySpans a.line 0 } ∷ [])))))

-- those that ACT line k may break, counted from 0
abbrev pub reasons_at : Meaning → SiteSettings → List ActLine → ℕ → List Reason
reasons_at m s acts k = line_reasons m s (written acts k) ++ judge_reasons m s (take k (written_plan acts)) (written_action (written acts k))

-- an action, no leave, from whose end column no action starts at its end
abbrev pub IsLeftBehind : List Action → Action → Type 0
IsLeftBehind plan a = (a.work ≢ Leave) × (Carried plan a.end (end_column a) → ⊥)

-- those that a plan may break at the sheet's end
unfoldable pub end_reasons : Meaning → List Action → (ℕ → ℕ) → ℕ → List Reason
end_reasons m plan targets lines =
    from_on (λ i. record { holds = IsLeftBehind plan (line plan i); tells = told LeftBehind (line plan i).line 0 } ∷ []) 0 (length plan)
    ++ from_on (λ c. record { holds = height_at plan (makespan plan) c ≡ targets c → ⊥; tells = told TargetMissed lines c } ∷ []) 0 m.columns

abbrev pub sheet_reasons : Meaning → SiteSettings → Records → List Reason
sheet_reasons m s r =
    from_on (reasons_at m s r.acts) 0 (length r.acts) ++ end_reasons m (written_plan r.acts) (target_of r.targets) r.lines

-- the rules of reading, of the ACT lines one after another, and of the sheet's end
unfoldable pub judging_reasons : Meaning → SiteSettings → List ℕ → List Reason
judging_reasons m s sheet = reading_reasons m s sheet ++ sheet_reasons m s (records_in sheet)
