-- The ACT lines of a sheet, one after another. Assumes nothing.
use Rattle.std.proofs.Common.{◌≡◌, ℕ, ◌+◌, ◌<◌, ◌≤◌, true, false, not, ◌⊎◌, List, [], ◌∷◌, ◌++◌, length, take, None, sym, ap, ◌∙◌, subst, inl, inr, arith}
use Rattle.std.proofs.lemmas.Bool.{cases_Bool, true≢false}
use Rattle.std.proofs.lemmas.List.{get_or-map, length-map, take_all, take_more}
use Rattle.terms.specs.Durations.{SiteSettings}
use Rattle.terms.specs.Refusals.{first_of, or_else}
use Rattle.terms.proofs.First.{first_append}
use Rattle.ground.specs.Meaning.{Meaning}
use Rattle.sheet.specs.declared.record.ActLine.{ActLine}
use Rattle.plan.specs.Judged.{Meets, Timed}
use Rattle.plan.specs.Lines.{written_action, line_tests}
use Rattle.plan.specs.Plan.{Action, no_action}
use Rattle.plan.specs.Rules.{no_act, written_plan, written}
use Rattle.judge.specs.Finding.{Settled}
use Rattle.judge.specs.Judging.{falls, judge_tests, tests_at}
use Rattle.judge.proofs.Exact.{line_meets}
use Rattle.judge.proofs.Reasoned.{at_silent, decides_order}
use Rattle.judge.proofs.Settling.{settled_more}

module _ (m : Meaning) (s : SiteSettings) (acts : List ActLine) (i : ℕ) (above : List Action) (so_far : above ≡ take i (written_plan acts)) where
  -- what refuses line i, as the code finds it
  pub line_refused : or_else (first_of (line_tests m s (written acts i))) (first_of (judge_tests m s above (written_action (written acts i)))) ≡ first_of (tests_at m s acts i)
  line_refused =
      ap (λ (xs : List Action). or_else (first_of (line_tests m s (written acts i))) (first_of (judge_tests m s xs (written_action (written acts i))))) so_far
      ∙ sym (first_append (line_tests m s (written acts i)) (judge_tests m s (take i (written_plan acts)) (written_action (written acts i))))

  -- one line more
  pub plan_more : (a : Action) → i < length acts → a ≡ written_action (written acts i) → above ++ (a ∷ []) ≡ take (i + 1) (written_plan acts)
  plan_more a l e =
      ap (λ (xs : List Action). xs ++ (a ∷ [])) so_far
      ∙ ap (λ (x : Action). take i (written_plan acts) ++ (x ∷ [])) (e ∙ sym (get_or-map written_action acts i no_act no_action l))
      ∙ sym (take_more (written_plan acts) i no_action (omega (arith, length-map acts written_action)))

  module _ (a : Action) (is : a ≡ written_action (written acts i)) (none : first_of (tests_at m s acts i) ≡ None) where
    met : Meets m s above a
    met =
        let w : Meets m s (take i (written_plan acts)) (written_action (written acts i)) = (line_meets m s (take i (written_plan acts)) (written acts i) (at_silent m s acts i none)).1 in
        subst (λ (x : Action). Meets m s above x) (sym is) (subst (λ (xs : List Action). Meets m s xs (written_action (written acts i))) (sym so_far) w)

    pub settled_on : Timed s → Settled m above → Settled m (above ++ (a ∷ []))
    settled_on timed so = settled_more m s above a timed so met

    pub starts_later : falls above a ≡ false
    starts_later = go (cases_Bool (falls above a))
      where
        go : (falls above a ≡ true) ⊎ (falls above a ≡ false) → falls above a ≡ false
        go (inl y) = absurd (true≢false (sym ((decides_order above a).1 met.in_order) ∙ ap not y))
        go (inr f) = f

-- all lines
pub plan_all : (acts : List ActLine) (i : ℕ) → length acts ≤ i → take i (written_plan acts) ≡ written_plan acts
plan_all acts i l = take_all i (written_plan acts) (omega (arith, length-map acts written_action))
