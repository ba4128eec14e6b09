use Rattle.std.proofs.Common.{◌≡◌, get_or, set, is_ok, false, Some, rules, sym, ap, ◌∙◌}
use Rattle.std.proofs.lemmas.List.{set-set, set-get_or}
use Rattle.std.proofs.lemmas.Bool.{cond-false}
use Rattle.ways.specs.View.{marked}
use Rattle.gate.specs.Scene.{lying}
use Rattle.gate.specs.Gate.{lowest_stranded}
use Rattle.gate.specs.View.{stranded_in}
use Rattle.gate.proofs.Lies.{lies_tried}
use Rattle.gate.proofs.trial.try_change.Goals as goal

pub returns-in_err-all_home-clause-answer : goal.returns-in_err-all_home-clause-answer
returns-in_err-all_home-clause-answer g c =
    let m = g.G.Ground.meaning c.args.ground.now in
    let xs = c.args.columns.now in
    let ms = c.args.marks.now in
    let is : stranded_in c.from_residual.result ≡ Some c.in_err-all_home.field-0.0.column = search rules in
    is ∙ c.in_err-all_home.ensures ∙ ap (λ at. lowest_stranded m xs (lying xs (marked (set ms at 1)))) c.from-at.ensures
    ∙ ap (lowest_stranded m xs) (lies_tried xs ms c.args.column c.requires)

pub returns-in_err-all_home-clause-marks : goal.returns-in_err-all_home-clause-marks
returns-in_err-all_home-clause-marks g c =
    let ms = c.args.marks.now in
    let at = c.from-at.result in
    let is : is_ok c.from_residual.result ≡ false = search rules in
    c.drop-trial.ensures ∙ set-set ms at 1 (get_or ms at 0) ∙ set-get_or ms at 0 ∙ sym (cond-false (is_ok c.from_residual.result) (set ms c.args.column 1) ms is)

pub returns-clause-answer : goal.returns-clause-answer
returns-clause-answer g c =
    let m = g.G.Ground.meaning c.args.ground.now in
    let xs = c.args.columns.now in
    let ms = c.args.marks.now in
    c.in_ok-all_home.ensures ∙ ap (λ at. lowest_stranded m xs (lying xs (marked (set ms at 1)))) c.from-at.ensures
    ∙ ap (lowest_stranded m xs) (lies_tried xs ms c.args.column c.requires)
