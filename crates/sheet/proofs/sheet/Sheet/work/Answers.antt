use Rattle.std.proofs.Common.{◌≤◌, ◌^◌, length, rules, arith}
use Rattle.std.proofs.lemmas.Iterator.{YieldsList-from_slice}
use Rattle.std.proofs.lemmas.Iterator.Adapters.{fits_from_length, at_most_from_yields_List}
use Rattle.sheet.proofs.sheet.Sheet.work.Goals as goal

-- each of at most 1,500 targets adds no more than 16 bits hold
pub sum-requires-clause-fits : goal.sum-requires-clause-fits
sum-requires-clause-fits c =
    let few : length c.deref.result.now ≤ 1500 = omega arith in
    fits_from_length _ _ 1500 (2 ^ 32) (at_most_from_yields_List (YieldsList-from_slice c.deref.result.now cc) few) c.map.ensures.closure (omega arith) (λ x r q k. search rules)
