-- The rules of the sheet's end, one after another. Assumes nothing.
use Rattle.std.proofs.Common.{◌≡◌, ℕ, ◌-◌, ◌<◌, ◌≤◌, get_or, Bool, List, [], ◌∷◌, length, Some, None, Option, sym, refl, ap, ◌∙◌, arith}
use Rattle.std.proofs.lemmas.List.{get_or-map, length-map}
use Rattle.std.specs.Option.{option_map}
use Rattle.terms.specs.Refusals.{Told, told, first_of, from_on, or_else}
use Rattle.terms.specs.declared.refusal.Rule.TheVariants.{LeftBehind, TargetMissed}
use Rattle.terms.proofs.First.{first_append}
use Rattle.ground.specs.Meaning.{Meaning}
use Rattle.sheet.specs.declared.target.Target.{Target}
use Rattle.plan.specs.declared.action.Action.{Action as Held}
use Rattle.plan.specs.View.{action_of, plan_of}
use Rattle.plan.proofs.Judged.{ends_by}
use Rattle.plan.specs.Plan.{Action, line, makespan, no_action}
use Rattle.plan.specs.Rules.{target_of}
use Rattle.judge.specs.Finding.{find, line_in}
use Rattle.judge.specs.Judging.{end_tests, latest_start, left_behind, missed}
use Rattle.judge.proofs.Chains.{first_found}

module _ (m : Meaning) (plan : List Action) (targets : ℕ → ℕ) (lines : ℕ) where
  abbrev behind_tests : List (Bool × Told)
  behind_tests = from_on (λ i. (left_behind plan (line plan i), told LeftBehind (line plan i).line 0) ∷ []) 0 (length plan)

  abbrev pub missed_tests : ℕ → List (Bool × Told)
  missed_tests t = from_on (λ c. (missed plan targets t c, told TargetMissed lines c) ∷ []) 0 m.columns

  one_by_one : first_of (end_tests m plan targets lines) ≡ or_else (first_of behind_tests) (first_of (missed_tests (makespan plan)))
  unfolding end_tests
  one_by_one = first_append behind_tests (missed_tests (makespan plan))

  -- the first action whose robot is left behind
  behind_found : (o : Option ℕ) → o ≡ line_in (find (left_behind plan) plan) → first_of behind_tests ≡ option_map (λ l. told LeftBehind l 0) o
  behind_found o e =
      first_found (left_behind plan) (λ b. told LeftBehind b.line 0) no_action plan ∙ twice (find (left_behind plan) plan) ∙ ap (option_map (λ l. told LeftBehind l 0)) (sym e)
    where
      twice : (x : Option Action) → option_map (λ (b : Action). told LeftBehind b.line 0) x ≡ option_map (λ l. told LeftBehind l 0) (line_in x)
      twice None = refl
      twice (Some b) = refl

  -- of what the code finds
  pub in_turn : (behind : Option ℕ) → behind ≡ line_in (find (left_behind plan) plan) → first_of (end_tests m plan targets lines) ≡ or_else (option_map (λ l. told LeftBehind l 0) behind) (first_of (missed_tests (makespan plan)))
  in_turn behind is = one_by_one ∙ ap (λ (o : Option Told). or_else o (first_of (missed_tests (makespan plan)))) (behind_found behind is)

-- with the columns, the time and the targets as the code has them
missed_in_turn : (m : Meaning) (plan : List Action) (lines : ℕ) {columns time : ℕ} {ts targets : List Target} → columns ≡ m.columns → time ≡ makespan plan → ts ≡ targets
    → first_of (missed_tests m plan (target_of targets) lines (makespan plan)) ≡ first_of (from_on (λ c. (missed plan (target_of ts) time c, told TargetMissed lines c) ∷ []) 0 columns)
missed_in_turn m plan lines {columns} {time} {ts} {targets} width end same =
    ap (λ (u : ℕ). first_of (missed_tests m plan (target_of targets) lines u)) (sym end)
    ∙ ap (λ (us : List Target). first_of (missed_tests m plan (target_of us) lines time)) (sym same)
    ∙ ap (λ (n : ℕ). first_of (from_on (λ c. (missed plan (target_of ts) time c, told TargetMissed lines c) ∷ []) 0 n)) (sym width)

-- both in turn, of what the code finds
pub both_in_turn : (m : Meaning) (plan : List Action) (lines : ℕ) {columns time : ℕ} {ts targets : List Target} {behind : Option ℕ} (column : Option ℕ) → behind ≡ line_in (find (left_behind plan) plan) → columns ≡ m.columns → time ≡ makespan plan → ts ≡ targets
    → first_of (from_on (λ c. (missed plan (target_of ts) time c, told TargetMissed lines c) ∷ []) 0 columns) ≡ option_map (told TargetMissed lines) column
    → first_of (end_tests m plan (target_of targets) lines) ≡ or_else (option_map (λ l. told LeftBehind l 0) behind) (option_map (told TargetMissed lines) column)
both_in_turn m plan lines {columns} {time} {ts} {targets} {behind} column is width end same found =
    in_turn m plan (target_of targets) lines behind is
    ∙ ap (λ (o : Option Told). or_else (option_map (λ l. told LeftBehind l 0) behind) o) (missed_in_turn m plan lines width end same ∙ found)

-- the last start is no later than the end of all
pub starts_by_end : (xs : List Held) → latest_start (plan_of xs) ≤ makespan (plan_of xs)
starts_by_end [] = omega arith
starts_by_end (x ∷ xs) =
    let plan = plan_of (x ∷ xs) in
    let i = length plan - 1 in
    let l : i < length plan = omega arith in
    let k : i < length (x ∷ xs) = omega (arith, length-map (x ∷ xs) action_of) in
    let o = (get_or (x ∷ xs) i x).span.ordered in
    let starts : (line plan i).start ≡ (action_of (get_or (x ∷ xs) i x)).start = ap (λ (a : Action). a.start) (get_or-map action_of (x ∷ xs) i x no_action k) in
    let ends : (line plan i).end ≡ (action_of (get_or (x ∷ xs) i x)).end = ap (λ (a : Action). a.end) (get_or-map action_of (x ∷ xs) i x no_action k) in
    omega (arith, o, starts, ends, ends_by plan i l)
