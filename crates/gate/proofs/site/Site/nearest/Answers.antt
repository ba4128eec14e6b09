use Rattle.std.proofs.Common.{ℕ, Option, rules, vec_items, refl, ap, ◌∙◌, arith}
use Rattle.std.specs.List.{filter_map, range_with_len}
use Rattle.std.proofs.lemmas.Iterator.{YieldsList-from_range}
use Rattle.std.proofs.lemmas.Iterator.Consumers.{YieldsList-at, YieldsList-from_filter_map}
use borrow.Author.Tests.{tests}
use Rattle.ways.specs.View.{steps_in}
use Rattle.gate.specs.Recall.{robot_steps, best_below}
use Rattle.gate.proofs.Least.{paired, least_picked, least_ranged}
use Rattle.gate.proofs.site.Site.nearest.Goals as goal

pub returns : goal.returns
returns g c =
    let f : ℕ → Option ℕ = robot_steps (vec_items c.args.self.now.columns) (steps_in c.args.ways.now) in
    let n = c.columns.result in
    least_picked _ _ (λ x k q e. search (rules, tests)) c.filter_map.result (filter_map (paired f) (range_with_len 0 n)) c.min_by_key.result c.min_by_key.ensures.ran
    (YieldsList-from_filter_map _ (paired f) (YieldsList-at c.filter_map.ensures.source (YieldsList-from_range 0 n n refl (omega arith))) c.filter_map.ensures.closure (λ x r q k. search (rules, tests)))
    ∙ least_ranged f n ∙ ap (best_below f) c.columns.ensures
