use Rattle.std.proofs.Common.{◌≡◌, rules, vec_items, sym, ap, ◌∙◌}
use Rattle.std.specs.List.{count_by}
use Rattle.std.proofs.iter.runs.Made.{chains}
use Rattle.gate.specs.declared.column.Column.{Column}
use Rattle.gate.specs.Column.{fresh, robot}
use Rattle.gate.specs.Scene.{sum_below, one_if, state_at}
use Rattle.gate.proofs.Below.{count_listed}
use Rattle.gate.proofs.site.Site.robots.Goals as goal

pub returns : goal.returns
returns g c =
    let xs = vec_items c.args.self.now.columns in
    let counted : c.count.result ≡ count_by (λ (x : Column). robot x.state) xs = search (rules, chains) in
    counted ∙ count_listed xs fresh (λ (x : Column). robot x.state)
    ∙ ap (sum_below (λ e. one_if (robot (state_at xs e)))) (sym c.args.self.now.columns.ok.0 ∙ c.args.self.now.one_each)
