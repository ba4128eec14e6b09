use Rattle.std.proofs.Common.{codes, ◌∙◌}
use Rattle.console.proofs.Writing.{three_named}
use Rattle.console.proofs.page.Page.put_counts.Goals as goal

pub returns-clause-value : goal.returns-clause-value
returns-clause-value g c =
    three_named c.args.self.now c.put_named.new.self c.put_named-2.new.self c.put_named-3.new.self (codes "robots ") (codes ", blocks standing ") (codes ", blocks carried ")
    _ _ _ _ _ _ c.put_named.ensures.value c.put_named-2.ensures.value c.put_named-3.ensures.value (c.into.ensures ∙ c.robots.ensures) c.blocks_standing.ensures
    (c.into-2.ensures ∙ c.blocks_carried.ensures)
