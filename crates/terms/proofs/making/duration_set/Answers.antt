use Rattle.std.proofs.Common.{rules}
use Rattle.terms.proofs.Sets.{is_set}
use Rattle.terms.proofs.making.duration_set.Goals as goal

pub returns-clause-words : goal.returns-clause-words
returns-clause-words c = is_set c.args.number _ (search rules)
