-- A timestep in both, where both tests hold, is the later of the two starts.
use Rattle.std.proofs.Common.{max, arith}
use Rattle.std.proofs.lemmas.Bool.{ltb-true, lt-ltb}
use Rattle.plan.proofs.span.Span.overlaps.Goals as goal

pub returns-then-self-other : goal.returns-then-self-other
returns-then-self-other c = (
  λ e. let h = ltb-true _ _ e in (max c.args.self.now.start c.args.other.now.start, (omega arith, omega arith), (omega arith, omega arith)),
  λ w. lt-ltb _ _ (omega arith),
)
