use Rattle.std.proofs.Common.{rules, vec_items, sym, ap, ◌∙◌}
use Rattle.std.proofs.lemmas.Iterator.{YieldsList-from_slice}
use Rattle.std.proofs.lemmas.Iterator.Search.{any_from_yields_List}
use borrow.Author.Tests.{tests}
use Rattle.gate.specs.declared.column.Column.{Column}
use Rattle.gate.specs.Column.{fresh, runs}
use Rattle.gate.specs.Scene.{any_below, state_at}
use Rattle.gate.proofs.Below.{any_listed}
use Rattle.gate.proofs.site.Site.any_runs.Goals as goal

pub returns : goal.returns
returns g c =
    let xs = vec_items c.args.self.now.columns in
    any_from_yields_List (λ (x : Column). runs x.state) _ _ c.any.result c.any.ensures.ran (YieldsList-from_slice xs cc) (λ x b q k. search (rules, tests))
    ∙ any_listed xs fresh (λ (x : Column). runs x.state)
    ∙ ap (any_below (λ e. runs (state_at xs e))) (sym c.args.self.now.columns.ok.0 ∙ c.args.self.now.one_each)
