use Rattle.std.proofs.Common.{arith}
use Rattle.console.proofs.Lining.{within}
use Rattle.console.proofs.script.Script.of.Goals as goal

pub invariant_of-result : goal.invariant_of-result
invariant_of-result c = let w = within c.args.script.now c.requires in (omega (arith, w.1), w.0)

pub returns-clause-few : goal.returns-clause-few
returns-clause-few c = (within c.args.script.now c.requires).2
