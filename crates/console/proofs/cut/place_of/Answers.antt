use Rattle.std.proofs.Common.{ℕ, Bool, eqb, rules, tests}
use Rattle.std.proofs.lemmas.Iterator.{YieldsList-from_slice}
use Rattle.std.proofs.lemmas.Iterator.Search.{position_from_yields_List}
use Rattle.console.proofs.Cutting.{end_is}
use Rattle.console.proofs.cut.place_of.Goals as goal

pub returns-clause-value : goal.returns-clause-value
returns-clause-value c =
    let l = c.args.bytes.now in
    let p : ℕ → Bool = λ b. eqb b c.args.byte in
    let found = position_from_yields_List p _ _ c.position.result c.position.ensures.ran (YieldsList-from_slice l cc) (λ x b q k. search (rules, tests)) in
    end_is p l c.position.result c.unwrap_or.result found c.unwrap_or.ensures
