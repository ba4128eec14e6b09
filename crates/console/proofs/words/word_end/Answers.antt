use Rattle.std.proofs.Common.{not, rules, tests, arith}
use Rattle.std.specs.Char.{is_ascii_whitespace}
use Rattle.std.proofs.lemmas.List.Sums.{prefix_len-le-length}
use Rattle.std.proofs.lemmas.Iterator.{YieldsList-from_slice}
use Rattle.std.proofs.lemmas.Iterator.Search.{position_from_yields_List}
use Rattle.console.proofs.Cutting.{end_is}
use Rattle.console.proofs.words.word_end.Goals as goal

pub returns-clause-value : goal.returns-clause-value
returns-clause-value c =
    let l = c.args.line.now in
    let found = position_from_yields_List is_ascii_whitespace _ _ c.position-first.result c.position-first.ensures.ran (YieldsList-from_slice l cc) (λ x b q k. search (rules, tests)) in
    end_is is_ascii_whitespace l c.position-first.result c.unwrap_or.result found c.unwrap_or.ensures

pub returns-clause-bound : goal.returns-clause-bound
returns-clause-bound c =
    let value = returns-clause-value c in
    let low = prefix_len-le-length (λ x. not (is_ascii_whitespace x)) c.args.line.now in
    omega (arith, value, low)
