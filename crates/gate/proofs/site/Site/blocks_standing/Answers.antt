use Rattle.std.proofs.Common.{◌≡◌, ◌≤◌, rules, vec_items, length, sym, ap, ◌∙◌, arith}
use Rattle.std.specs.List.{sum_by}
use Rattle.std.proofs.iter.runs.Made.{chains}
use Rattle.std.proofs.lemmas.Iterator.{YieldsList-from_slice}
use Rattle.std.proofs.lemmas.Iterator.Adapters.{fits_from_length, at_most_from_yields_List}
use borrow.Author.Tests.{tests}
use Rattle.gate.specs.declared.column.Column.{Column}
use Rattle.gate.specs.Column.{fresh}
use Rattle.gate.specs.Scene.{sum_below, height_at}
use Rattle.gate.proofs.Below.{sum_listed}
use Rattle.gate.proofs.site.Site.blocks_standing.Goals as goal

pub sum-requires-clause-fits : goal.sum-requires-clause-fits
sum-requires-clause-fits g c =
    let law = g.met.G.Ground.lawful c.args.self.now.floor in
    let few : length (vec_items c.args.self.now.columns) ≤ 256 = omega (arith, law.few, c.args.self.now.columns.ok.0, c.args.self.now.one_each) in
    fits_from_length _ _ 256 _ (at_most_from_yields_List (YieldsList-from_slice (vec_items c.args.self.now.columns) cc) few) c.map-heights.ensures.closure (omega arith) (λ x r q k. search (rules, tests))

pub returns : goal.returns
returns g c =
    let xs = vec_items c.args.self.now.columns in
    let summed : c.sum.result ≡ sum_by (λ (x : Column). x.height) xs = search (rules, chains) in
    summed ∙ sum_listed xs fresh (λ (x : Column). x.height) ∙ ap (sum_below (height_at xs)) (sym c.args.self.now.columns.ok.0 ∙ c.args.self.now.one_each)
