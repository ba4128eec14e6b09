use Rattle.std.proofs.Common.{None, rules}
use Rattle.sheet.proofs.Numbers.{numbers_show}
use Rattle.sheet.proofs.field.number.Goals as goal

pub returns-in_default-clause-words : goal.returns-in_default-clause-words
returns-in_default-clause-words c = numbers_show c.args.field.now c.digits_of.result (search rules)

pub returns-in-empty-clause-words : goal.returns-in-empty-clause-words
returns-in-empty-clause-words c = numbers_show c.args.field.now None (search rules)

pub returns-in-empty-2-clause-words : goal.returns-in-empty-2-clause-words
returns-in-empty-2-clause-words c = numbers_show c.args.field.now None (search rules)
