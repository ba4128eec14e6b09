-- The refusal of judging settles its reasons, and there is none exactly where the sheet reads and the rules hold. Assumes nothing.
use Rattle.std.proofs.Common.{◌≡◌, ℕ, List, length, is_ok, Some, None, Ok, Err, Decides, Option, Result, sym, refl, ap, ◌∙◌, subst}
use Rattle.std.proofs.lemmas.Bool.{true≢false}
use Rattle.terms.specs.Durations.{SiteSettings}
use Rattle.terms.specs.Refusals.{Answers, Settles, Silent, Told, first_of, from_on, or_else, refusal_in, told_of}
use Rattle.terms.specs.declared.refusal.Refusal.{Refusal}
use Rattle.terms.proofs.First.{answers_settle, first_append}
use Rattle.ground.specs.Meaning.{Meaning}
use Rattle.sheet.specs.Reading.{reading_refusal}
use Rattle.sheet.specs.Reasons.{reading_reasons}
use Rattle.sheet.specs.View.{Records, records_in}
use Rattle.sheet.proofs.Reasoned.{reading_settles}
use Rattle.plan.specs.Judged.{Timed}
use Rattle.plan.specs.Rules.{written_plan, target_of}
use Rattle.judge.specs.Judging.{end_tests, judging_refusal, sheet_tests, tests_at}
use Rattle.judge.specs.Reasons.{judging_reasons, sheet_reasons}
use Rattle.judge.specs.Verdict.{Keeps}
use Rattle.judge.proofs.Chains.{off, on}
use Rattle.judge.proofs.Exact.{rules_silent, silent_rules}
use Rattle.judge.proofs.Reasoned.{sheet_settles}
use Rattle.judge.proofs.Silence.{settles_both, silent_both, silent_parts, speaks_not}

module _ (m : Meaning) (s : SiteSettings) (sheet : List ℕ) where
  pub judging_settles : Settles (judging_reasons m s sheet) (judging_refusal m s sheet)
  unfolding judging_reasons judging_refusal
  judging_settles =
      settles_both (reading_reasons m s sheet) (sheet_reasons m s (records_in sheet)) (reading_refusal m s sheet) (first_of (sheet_tests m s (records_in sheet)))
      (reading_settles m s sheet) (sheet_settles m s (records_in sheet))

  -- stage after stage
  pub at_reading : (t : Told) → reading_refusal m s sheet ≡ Some t → judging_refusal m s sheet ≡ Some t
  unfolding judging_refusal
  at_reading t e = off _ _ t e

  -- what is accepted is read
  pub accepted_reads : judging_refusal m s sheet ≡ None → reading_refusal m s sheet ≡ None
  accepted_reads e = go (reading_refusal m s sheet) refl
    where
      go : (o : Option Told) → reading_refusal m s sheet ≡ o → o ≡ None
      go None read = refl
      go (Some t) read = let refused = at_reading t read in cc

  -- and so is what keeps the rules
  pub keeps_reads : Keeps m s sheet → reading_refusal m s sheet ≡ None
  keeps_reads k = go (reading_refusal m s sheet) refl
    where
      go : (o : Option Told) → reading_refusal m s sheet ≡ o → o ≡ None
      go None read = refl
      go (Some t) read = absurd (speaks_not (reading_reasons m s sheet) t (subst (Settles (reading_reasons m s sheet)) read (reading_settles m s sheet)) k.reads)

  module _ (r : Records) (read : reading_refusal m s sheet ≡ None) (is : r ≡ records_in sheet) where
    staged : judging_refusal m s sheet ≡ or_else (first_of (from_on (tests_at m s r.acts) 0 (length r.acts))) (first_of (end_tests m (written_plan r.acts) (target_of r.targets) r.lines))
    unfolding judging_refusal
    staged =
        on _ _ read ∙ ap (λ (x : Records). first_of (sheet_tests m s x)) (sym is)
        ∙ first_append (from_on (tests_at m s r.acts) 0 (length r.acts)) (end_tests m (written_plan r.acts) (target_of r.targets) r.lines)

    pub at_lines : (t : Told) → first_of (from_on (tests_at m s r.acts) 0 (length r.acts)) ≡ Some t → judging_refusal m s sheet ≡ Some t
    at_lines t e = staged ∙ off _ _ t e

    pub at_end : first_of (from_on (tests_at m s r.acts) 0 (length r.acts)) ≡ None
        → judging_refusal m s sheet ≡ first_of (end_tests m (written_plan r.acts) (target_of r.targets) r.lines)
    at_end e = staged ∙ on _ _ e

  module _ (timed : Timed s) where
    -- a sheet keeps the rules exactly where no reason of judging holds
    pub silent_keeps : Silent (judging_reasons m s sheet) → Keeps m s sheet
    unfolding judging_reasons
    silent_keeps none =
        let p = silent_parts (reading_reasons m s sheet) (sheet_reasons m s (records_in sheet)) none in
        record { reads = p.0; rules = silent_rules m s (records_in sheet) timed p.1 }

    pub keeps_silent : Keeps m s sheet → Silent (judging_reasons m s sheet)
    unfolding judging_reasons
    keeps_silent k = silent_both (reading_reasons m s sheet) (sheet_reasons m s (records_in sheet)) k.reads (rules_silent m s (records_in sheet) timed k.rules)

    accepted_keeps : judging_refusal m s sheet ≡ None → Keeps m s sheet
    accepted_keeps e = silent_keeps (subst (Settles (judging_reasons m s sheet)) e judging_settles)

    refused_breaks : (t : Told) → judging_refusal m s sheet ≡ Some t → Keeps m s sheet → ⊥
    refused_breaks t e k = speaks_not (judging_reasons m s sheet) t (subst (Settles (judging_reasons m s sheet)) e judging_settles) (keeps_silent k)

    -- accepted exactly where the sheet reads and keeps the rules
    pub decides_keeps : {T : Type 0} (P : T → Type 0) (r : Result T Refusal) → Answers (judging_refusal m s sheet) P r → Decides (is_ok r) (Keeps m s sheet)
    decides_keeps P (Ok v) a = (λ _. accepted_keeps a.0, λ _. refl)
    decides_keeps P (Err f) a = (λ e. absurd (true≢false (sym e)), λ k. absurd (refused_breaks (told_of f) a k))

  -- what a refusal, or an acceptance, says in words
  pub in_words : {T : Type 0} (P : T → Type 0) (r : Result T Refusal) → Answers (judging_refusal m s sheet) P r → Settles (judging_reasons m s sheet) (refusal_in r)
  in_words P r a = answers_settle (judging_reasons m s sheet) (judging_refusal m s sheet) P r a judging_settles
