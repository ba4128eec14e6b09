use Rattle.std.proofs.Common.{◌≡◌, eqb, Bor, ap, ◌∙◌, rules, tests}
use Rattle.std.specs.Option.{option_map, unwrap_or}
use Rattle.std.proofs.lemmas.Iterator.{YieldsList-from_slice}
use Rattle.std.proofs.lemmas.Iterator.Search.{find_from_yields_List}
use Rattle.sheet.specs.declared.target.Target.{Target}
use Rattle.judge.proofs.Searches.{target_is}
use Rattle.judge.proofs.end.target_of.Goals as goal

pub returns : goal.returns
returns c =
    let ts = c.args.targets.now in
    let found = find_from_yields_List (λ (t : Target). eqb t.column c.args.column) _ _ c.find.result c.find.ensures.ran (YieldsList-from_slice ts cc) (λ x b q k. search (rules, tests)) in
    let height : c.map_or.result ≡ unwrap_or (option_map (λ (t : Target). t.height) (option_map (λ (y : Bor Target). y.now) c.find.result)) 0 = search rules in
    height ∙ ap (λ o. unwrap_or (option_map (λ (t : Target). t.height) o) 0) found ∙ target_is c.args.column ts
