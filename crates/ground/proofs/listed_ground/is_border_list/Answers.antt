-- Where the lengths are right, the bytes decide.
use Rattle.std.proofs.Common.{rules, leb, ◌∙◌}
use Rattle.std.proofs.lemmas.Iterator.{YieldsList-from_slice}
use Rattle.std.proofs.lemmas.Iterator.Search.{all_from_yields_List}
use Rattle.ground.proofs.Scans.{border_fits_yes}
use Rattle.ground.proofs.listed_ground.is_border_list.Goals as goal
use borrow.Author.Tests.{tests}

pub returns-then-border-from : goal.returns-then-border-from
returns-then-border-from c =
    all_from_yields_List (λ b. leb b 1) c.all.new.self _ c.all.result c.all.ensures.ran (YieldsList-from_slice c.args.border.now c.iter.ensures.rest) (λ x b q k. search (rules, tests)) ∙
    border_fits_yes c.args.columns c.args.border.now (search rules) (search rules) (search rules)
