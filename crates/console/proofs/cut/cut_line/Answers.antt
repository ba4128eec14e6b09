use Rattle.std.proofs.Common.{arith}
use Rattle.console.proofs.Lining.{first_line}
use Rattle.console.proofs.cut.cut_line.Goals as goal

pub returns-clause-lines : goal.returns-clause-lines
returns-clause-lines c = first_line c.args.text.now c.split_at.result.0.now c.split_at.result.1.now c.min.result c.requires (omega arith) c.split_at.ensures.front c.split_at.ensures.back
