use Rattle.std.proofs.Common.{◌≡◌, true, false, rules, ap, ◌∙◌}
use Rattle.std.proofs.lemmas.Iterator.{first_from_Range}
use borrow.Author.Tests.{tests}
use Rattle.ways.specs.Table.{first_below}
use Rattle.ways.specs.View.{steps_in}
use Rattle.gate.specs.Gate.{stranded_by}
use Rattle.gate.proofs.Below.{found_first}
use Rattle.gate.proofs.Lies.{stranded_same}
use Rattle.gate.proofs.trial.lowest_stranded.Goals as goal

pub returns : goal.returns
returns g c =
    let m = g.G.Ground.meaning c.args.ground.now in
    let found = steps_in c.search-ways.result in
    let test = stranded_by c.args.columns.now found in
    found_first test c.columns.result c.find.result
    (first_from_Range _ _ _ c.find.result (λ k. test k ≡ true) (λ k. test k ≡ false) c.find.ensures.ran (λ x q k. search (rules, tests)) (λ x q k. search (rules, tests)))
    ∙ ap (first_below test) c.columns.ensures ∙ stranded_same m c.args.columns.now c.args.marks.now found c.search-ways.ensures.value
