use Rattle.std.proofs.Common.{refl, codes, arith, rules}
use Rattle.std.proofs.lemmas.Slice.Eq.{text_from_reads}
use Rattle.console.proofs.reading.verb_in.Goals as goal

pub returns-in-recall : goal.returns-in-recall
returns-in-recall c = let h = text_from_reads c.args.word.now (codes "recall") (omega arith) (search rules) in rw h refl
