use Rattle.std.proofs.Common.{ℕ, List, sym, refl, ap, ◌∙◌, subst, rules}
use Rattle.std.proofs.lemmas.List.{take_rest}
use Rattle.terms.specs.View.{settings_of}
use Rattle.ground.specs.View.{square_of}
use Rattle.sheet.specs.View.{records_in}
use Rattle.judge.specs.Verdict.{Accepts, Keeps}
use Rattle.job.specs.Replies.{ground_of}
use Rattle.job.proofs.Joined.{sheet_decides, site_same}
use Rattle.job.proofs.opened.judge_job.Goals as goal

pub returns : goal.returns
returns c =
    let input = c.args.input.now in
    let order = c.in_ok-read_order.field-0 in
    let job = c.in_ok-job.job in
    let m = square_of job.ground in
    let s = settings_of job.settings in
    let read = c.in_ok-read_order.ensures in
    let made = c.in_ok-job.ensures in
    let judged = c.in_ok-plan.ensures in
    let el = take_rest input 35 in (
      sheet_decides input order m s _ read.0 read.1.0 made.0 made.1.0 made.1.1 el ∙ judged.value.0,
      record {
        site = site_same input order m s read.1.0 made.1.0 made.1.1;
        ground = made.1.0 ∙ ap ground_of (sym read.1.0);
        keeps = subst (λ (l : List ℕ). Keeps m s l) el (judged.rules.0 refl);
        accepts = subst (λ (l : List ℕ). Accepts (records_in l) c.in_ok-plan.plan) el judged.value.1;
      },
    )

pub returns-in_err-plan : goal.returns-in_err-plan
returns-in_err-plan c =
    let read = c.in_ok-read_order.ensures in
    let made = c.in_ok-job.ensures in
    let same = sheet_decides c.args.input.now c.in_ok-read_order.field-0 _ _ _ read.0 read.1.0 made.0 made.1.0 made.1.1 (take_rest c.args.input.now 35) ∙ c.in_err-plan.ensures.value in
    grind (rules, same)
