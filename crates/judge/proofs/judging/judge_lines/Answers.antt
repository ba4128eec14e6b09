use Rattle.std.proofs.Common.{◌≡◌, List, length, vec_items, sym, ap, ◌∙◌, subst, arith}
use native.Mathlib.Nat.{sub-zero}
use Rattle.std.proofs.lemmas.List.{length-map, length-take}
use Rattle.std.proofs.lemmas.Result.{err_from_is_err_and}
use Rattle.terms.specs.Refusals.{first_of, from_on, told_of}
use Rattle.terms.specs.View.{settings_of}
use Rattle.terms.proofs.First.{goes_on, none_left, stops_at}
use Rattle.terms.specs.Durations.{SiteSettings}
use Rattle.ground.specs.Meaning.{Meaning}
use Rattle.sheet.specs.declared.record.ActLine.{ActLine}
use Rattle.plan.specs.Lines.{written_action}
use Rattle.plan.specs.Rules.{written_plan}
use Rattle.plan.specs.View.{action_of, plan_of}
use Rattle.judge.specs.Finding.{Settled}
use Rattle.judge.specs.Judging.{tests_at}
use Rattle.judge.proofs.Settling.{settled_none}
use Rattle.judge.proofs.Through.{line_refused, plan_all, plan_more, settled_on, starts_later}
use Rattle.judge.proofs.Timely.{timed}
use Rattle.judge.proofs.judging.judge_lines.Goals as goal

-- what decides a sheet's lines
whole : (m : Meaning) (s : SiteSettings) {xs ys : List ActLine} → xs ≡ ys → first_of (from_on (tests_at m s ys) 0 (length ys)) ≡ first_of (from_on (tests_at m s xs) 0 (length xs))
whole m s {xs} {ys} e = ap (λ (zs : List ActLine). first_of (from_on (tests_at m s zs) 0 (length zs))) (sym e)

pub loop-line-init : goal.loop-line-init
loop-line-init g c =
    let m = g.G.Ground.meaning c.args.ground.now in
    let acts = c.deref-line-items.result.now in
    let none = c.none-above.ensures in (
      none,
      subst (Settled m) (sym none) (settled_none m),
      ap (λ k. first_of (from_on (tests_at m (settings_of c.args.settings.now) acts) 0 k)) (sub-zero (length acts)),
    )

pub returns-in_err-action : goal.returns-in_err-action
returns-in_err-action g c =
    let m = g.G.Ground.meaning c.args.ground.now in
    let s = settings_of c.args.settings.now in
    let acts = c.deref-line-items.result.now in
    let i = c.loop-line.line-index in
    let inv = c.loop-line.invariant in
    let refusal = c.in_err-action.field-0.0 in
    let p = err_from_is_err_and c.from_residual.result c.from_residual.ensures.1 in
    rw (p.1, p.2)
    (whole m s c.deref-line-items.ensures.value ∙ sym inv.2 ∙ stops_at (tests_at m s acts) i (length acts) (told_of refusal) c.loop-line-test.true
    (sym (line_refused m s acts i (plan_of (vec_items c.loop-line.above.list)) inv.0) ∙ c.in_err-action.ensures inv.1))

-- fewer so far than a sheet can have
pub push-requires-clause-few : goal.push-requires-clause-few
push-requires-clause-few g c =
    let acts = c.deref-line-items.result.now in
    omega (arith, ap length c.loop-line.invariant.0, length-take c.loop-line.line-index (written_plan acts), length-map acts written_action, c.deref-line-items.ensures.len, c.args.sheet.now.few_acts)

pub push-requires-clause-in_order : goal.push-requires-clause-in_order
push-requires-clause-in_order g c =
    let m = g.G.Ground.meaning c.args.ground.now in
    let s = settings_of c.args.settings.now in
    let acts = c.deref-line-items.result.now in
    let i = c.loop-line.line-index in
    let inv = c.loop-line.invariant in
    let above = plan_of (vec_items c.loop-line.above.list) in
    let told = c.in_ok-action.ensures inv.1 in
    starts_later m s acts i above inv.0 (action_of c.in_ok-action.action) told.1 (sym (line_refused m s acts i above inv.0) ∙ told.0)

pub loop-line-preserved : goal.loop-line-preserved
loop-line-preserved g c =
    let m = g.G.Ground.meaning c.args.ground.now in
    let s = settings_of c.args.settings.now in
    let acts = c.deref-line-items.result.now in
    let i = c.loop-line.line-index in
    let inv = c.loop-line.invariant in
    let above = plan_of (vec_items c.loop-line.above.list) in
    let a = action_of c.in_ok-action.action in
    let told = c.in_ok-action.ensures inv.1 in
    let none = sym (line_refused m s acts i above inv.0) ∙ told.0 in
    let more = c.push.ensures in (
      more ∙ plan_more m s acts i above inv.0 a c.loop-line-test.true told.1,
      subst (Settled m) (sym more) (settled_on m s acts i above inv.0 a told.1 none (timed c.args.settings.now) inv.1),
      goes_on (tests_at m s acts) i (length acts) c.loop-line-test.true none ∙ inv.2,
    )

pub returns : goal.returns
returns g c =
    let m = g.G.Ground.meaning c.args.ground.now in
    let s = settings_of c.args.settings.now in
    let acts = c.deref-line-items.result.now in
    let same = c.deref-line-items.ensures.value in
    let i = c.loop-line.line-index in
    let inv = c.loop-line.invariant in (
      whole m s same ∙ sym inv.2 ∙ none_left (tests_at m s acts) i (length acts) (omega arith),
      (inv.0 ∙ plan_all acts i c.loop-line-test.false ∙ ap written_plan same, inv.1),
    )
