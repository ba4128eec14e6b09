-- Each way out is the refusal of its stage, those before it having passed.
use Rattle.std.specs.Prelude.{IfOk}
use Rattle.std.proofs.Common.{◌≡◌, ℕ, List, is_ok, Ok, Err, Decides, Result, sym, ap, ◌∙◌}
use Rattle.std.proofs.lemmas.Result.{err_from_is_err_and}
use Rattle.terms.specs.Durations.{SiteSettings}
use Rattle.terms.specs.Refusals.{Answers, Settles, first_of, refusal_in, told_of}
use Rattle.terms.specs.View.{settings_of}
use Rattle.terms.specs.declared.refusal.Refusal.{Refusal}
use Rattle.ground.specs.Meaning.{Meaning}
use Rattle.sheet.specs.Gathered.{IsSheet}
use Rattle.sheet.specs.View.{Records, records_in, sheet_of}
use Rattle.sheet.proofs.Gathered.{is_sheet}
use Rattle.plan.specs.Judged.{Timed}
use Rattle.plan.specs.Plan.{Action as Step}
use Rattle.plan.specs.Rules.{LinesStand, written_plan, target_of}
use Rattle.plan.proofs.Standing.{lines_stand}
use Rattle.judge.specs.Judging.{end_tests, judging_refusal}
use Rattle.judge.specs.Reasons.{judging_reasons}
use Rattle.judge.specs.Verdict.{Accepts, Keeps}
use Rattle.judge.specs.declared.accepted.Accepted.{Accepted}
use Rattle.judge.proofs.Timely.{timed}
use Rattle.judge.proofs.Verdict.{accepted_reads, at_end, at_lines, at_reading, decides_keeps, in_words}
use Rattle.judge.proofs.judging.judge.Goals as goal

abbrev Accepting : List ℕ → Accepted → Type 0
Accepting sheet a = Accepts (records_in sheet) a

-- an accepted sheet is what its lines come to
gathered : (m : Meaning) (s : SiteSettings) (sheet : List ℕ) (r : Result Accepted Refusal) → Answers (judging_refusal m s sheet) (Accepting sheet) r
    → IfOk r (λ _. IsSheet sheet (records_in sheet))
gathered m s sheet (Ok a) e = is_sheet m s sheet (accepted_reads m s sheet e.0)
gathered m s sheet (Err f) e = tt

-- what is answered, in words and by the rules
verdict : (m : Meaning) (s : SiteSettings) (sheet : List ℕ) → Timed s → (r : Result Accepted Refusal) → Answers (judging_refusal m s sheet) (Accepting sheet) r
    → record { value : Answers (judging_refusal m s sheet) (Accepting sheet) r; words : Settles (judging_reasons m s sheet) (refusal_in r); rules : Decides (is_ok r) (Keeps m s sheet); lines : LinesStand; gathers : IfOk r (λ _. IsSheet sheet (records_in sheet)) }
verdict m s sheet t r e = record { value = e; words = in_words m s sheet (Accepting sheet) r e; rules = decides_keeps m s sheet t (Accepting sheet) r e; lines = lines_stand; gathers = gathered m s sheet r e }

-- the sheet's end, of the same plan
ended : (m : Meaning) (r : Records) {p q : List Step} → p ≡ q → first_of (end_tests m q (target_of r.targets) r.lines) ≡ first_of (end_tests m p (target_of r.targets) r.lines)
ended m r e = ap (λ (xs : List Step). first_of (end_tests m xs (target_of r.targets) r.lines)) (sym e)

pub returns-in_err-read : goal.returns-in_err-read
returns-in_err-read g c =
    let m = g.G.Ground.meaning c.args.ground.now in
    let s = settings_of c.args.settings.now in
    let sheet = c.args.sheet.now in
    let refusal = c.in_err-read.field-0.0 in
    let p = err_from_is_err_and c.from_residual.result c.from_residual.ensures.1 in
    rw (p.1, p.2) (verdict m s sheet (timed c.args.settings.now) (Err refusal) (at_reading m s sheet (told_of refusal) c.in_err-read.ensures.value))

pub returns-in_err-actions : goal.returns-in_err-actions
returns-in_err-actions g c =
    let m = g.G.Ground.meaning c.args.ground.now in
    let s = settings_of c.args.settings.now in
    let sheet = c.args.sheet.now in
    let refusal = c.in_err-actions.field-0.0 in
    let read = c.in_ok-read.ensures.value in
    let p = err_from_is_err_and c.from_residual-in_err-actions.result c.from_residual-in_err-actions.ensures.1 in
    rw (p.1, p.2) (verdict m s sheet (timed c.args.settings.now) (Err refusal) (at_lines m s sheet (sheet_of c.in_ok-read.read) read.0 read.1 (told_of refusal) c.in_err-actions.ensures))

pub returns-in_err-judge_end : goal.returns-in_err-judge_end
returns-in_err-judge_end g c =
    let m = g.G.Ground.meaning c.args.ground.now in
    let s = settings_of c.args.settings.now in
    let sheet = c.args.sheet.now in
    let refusal = c.in_err-judge_end.field-0.0 in
    let read = c.in_ok-read.ensures.value in
    let lines = c.in_ok-actions.ensures in
    let r = sheet_of c.in_ok-read.read in
    let p = err_from_is_err_and c.from_residual-in_err-judge_end.result c.from_residual-in_err-judge_end.ensures.1 in
    rw (p.1, p.2)
    (verdict m s sheet (timed c.args.settings.now) (Err refusal)
    (at_end m s sheet r read.0 read.1 lines.0 ∙ ended m r lines.1.0 ∙ sym (c.in_err-judge_end.ensures lines.1.1)))

pub returns : goal.returns
returns g c =
    let m = g.G.Ground.meaning c.args.ground.now in
    let s = settings_of c.args.settings.now in
    let sheet = c.args.sheet.now in
    let read = c.in_ok-read.ensures.value in
    let lines = c.in_ok-actions.ensures in
    let r = sheet_of c.in_ok-read.read in
    let none = at_end m s sheet r read.0 read.1 lines.0 ∙ ended m r lines.1.0 ∙ sym (c.in_ok-judge_end.ensures lines.1.1) in
    let accepts : Accepting sheet c.accept.result = record {
      plan = c.accept.ensures.plan.0 ∙ lines.1.0 ∙ ap (λ (x : Records). written_plan x.acts) read.1;
      targets = c.accept.ensures.plan.1 ∙ ap (λ (x : Records). x.targets) read.1;
      computed = c.accept.ensures.computed;
      figures = c.accept.ensures.figures;
    } in
    verdict m s sheet (timed c.args.settings.now) (Ok c.accept.result) (none, accepts)
