use Rattle.std.proofs.Common.{◌≡◌, rules}
use Rattle.terms.specs.Refusals.{Answers, first_of}
use Rattle.terms.specs.View.{settings_of}
use Rattle.plan.specs.Lines.{line_tests, written_action}
use Rattle.plan.specs.View.{action_of}
use Rattle.plan.proofs.Standing.{answer_stands}
use Rattle.plan.proofs.line.action_of.Goals as goal

pub returns-clause-stands : goal.returns-clause-stands
returns-clause-stands g c =
    let m = g.G.Ground.meaning c.args.ground.now in
    let s = settings_of c.args.settings.now in
    let l = c.args.line.now in
    let value : Answers (first_of (line_tests m s l)) (λ a. action_of a ≡ written_action l) c.map_err.result = search rules in
    answer_stands m s l c.map_err.result value
