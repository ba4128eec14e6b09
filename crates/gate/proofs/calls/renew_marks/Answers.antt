use Rattle.std.proofs.Common.{◌≡◌, ℕ, length, ap, ◌∙◌, rules, arith}
use Rattle.std.proofs.lemmas.List.{length-set}
use Rattle.gate.specs.Scene.{mark_of, renewed_marks}
use Rattle.gate.proofs.Marks.{none_renewed, one_renewed, all_renewed}
use Rattle.gate.proofs.calls.renew_marks.Goals as goal

pub loop-at-init : goal.loop-at-init
loop-at-init c = (omega arith, none_renewed c.args.columns.now c.args.marks.now)

pub loop-at-preserved : goal.loop-at-preserved
loop-at-preserved c =
    let ms = c.loop-at.marks in
    let e = c.loop-at.at in
    let is : c.from.result ≡ mark_of c.args.columns.now e = search rules in (
      omega (arith, length-set ms e c.from.result),
      one_renewed c.args.columns.now c.args.marks.now ms e c.from.result c.loop-at.invariant.1 (omega arith) is,
    )

pub returns : goal.returns
returns c =
    let all : c.loop-at.at ≡ length c.args.columns.now = omega arith in
    all_renewed c.args.columns.now c.args.marks.now c.loop-at.at c.loop-at.marks c.loop-at.invariant.0 c.loop-at.invariant.1
    ∙ ap (λ (n : ℕ). renewed_marks n c.args.columns.now c.args.marks.now) all
