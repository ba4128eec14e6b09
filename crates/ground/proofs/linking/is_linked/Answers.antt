-- Some neighbour is the other column just where the two are linked.
use Rattle.std.proofs.Common.{rules, eqb, ◌∙◌}
use Rattle.std.proofs.lemmas.Iterator.Consumers.{YieldsList-from_first}
use Rattle.std.proofs.lemmas.Iterator.Search.{any_from_yields_List}
use Rattle.ground.specs.Walk.{still_linked}
use Rattle.ground.proofs.Among.{linked_among}
use Rattle.ground.proofs.linking.is_linked.Goals as goal
use borrow.Author.Tests.{tests}

pub returns : goal.returns
returns g c =
    let m = g.G.Ground.meaning in
    let other = c.args.other in
    any_from_yields_List (λ d. eqb d other) c.any.new.self _ c.any.result c.any.ensures.ran (YieldsList-from_first (λ x. x) (still_linked m) _ c.of.ensures) (λ x b q k. search (rules, tests)) ∙
    linked_among (m c.args.ground.now) c.args.column other (g.met.G.Ground.lawful c.args.ground.now)
