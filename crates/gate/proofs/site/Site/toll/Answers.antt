use Rattle.std.proofs.Common.{◌≤◌, ℕ, length, rules, vec_items, refl, ap, ◌∙◌, arith}
use Rattle.std.specs.List.{range_with_len}
use Rattle.std.proofs.lemmas.Iterator.{YieldsList-from_range, YieldsList-from_map}
use Rattle.std.proofs.lemmas.Iterator.Consumers.{sum_by_from_yields_List, YieldsList-at}
use Rattle.std.proofs.lemmas.Iterator.Adapters.{fits_from_length, at_most_from_yields_List}
use Rattle.std.proofs.lemmas.List.FromFn.{length-range_with_len}
use borrow.Author.Tests.{tests}
use Rattle.ways.specs.View.{steps_in}
use Rattle.gate.specs.Scene.{sum_below}
use Rattle.gate.specs.Recall.{robot_steps, cost_of}
use Rattle.gate.proofs.Below.{sum_ranged}
use Rattle.gate.proofs.site.Site.toll.Goals as goal

pub sum-requires-clause-fits : goal.sum-requires-clause-fits
sum-requires-clause-fits g c =
    let n = c.columns.result in
    let few : length (range_with_len 0 n) ≤ 256 = omega (arith, length-range_with_len 0 n, c.columns.ensures, (g.met.G.Ground.lawful c.args.self.now.floor).few) in
    fits_from_length _ _ 256 _ (at_most_from_yields_List (YieldsList-at c.map.ensures.source (YieldsList-from_range 0 n n refl (omega arith))) few) c.map.ensures.closure (omega arith) (λ x r q k. search (rules, tests))

pub returns : goal.returns
returns g c =
    let f : ℕ → ℕ = λ e. cost_of (robot_steps (vec_items c.args.self.now.columns) (steps_in c.args.ways.now) e) in
    let n = c.columns.result in
    sum_by_from_yields_List f (range_with_len 0 n) c.map.result c.sum.result c.sum.ensures.ran
    (YieldsList-from_map _ f (YieldsList-at c.map.ensures.source (YieldsList-from_range 0 n n refl (omega arith))) c.map.ensures.closure (λ x r q k. search (rules, tests)))
    ∙ sum_ranged f n ∙ ap (sum_below f) c.columns.ensures
