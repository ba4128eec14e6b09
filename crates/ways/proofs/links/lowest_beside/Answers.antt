-- The first of the neighbours that passes is the lowest column that is linked and passes.
use Rattle.std.proofs.Common.{rules, sym, ◌∙◌}
use Rattle.std.proofs.lemmas.Iterator.Consumers.{YieldsList-from_first}
use Rattle.std.proofs.lemmas.Iterator.Search.{find_from_yields_List}
use Rattle.ground.specs.Walk.{still_linked}
use Rattle.ground.proofs.Picks.{as_it_is}
use Rattle.ways.specs.Table.{fits, label}
use Rattle.ways.specs.View.{heights_by}
use Rattle.ways.proofs.Along.{along}
use Rattle.ways.proofs.links.lowest_beside.Goals as goal
use borrow.Author.Tests.{tests}

pub returns : goal.returns
returns g c =
    let m = g.G.Ground.meaning in
    let test = fits (heights_by g.C.Tall.tallness c.args.columns.now) (label c.args.steps.now) c.args.n c.args.column in
    sym (as_it_is c.find.result) ∙
    find_from_yields_List test c.find.new.self _ c.find.result c.find.ensures.ran (YieldsList-from_first (λ x. x) (still_linked m) _ c.of.ensures) (λ x b q k. search (rules, tests)) ∙
    along (m c.args.ground.now) c.args.column test
