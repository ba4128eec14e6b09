use Rattle.job.proofs.OrderLine.{order_as_written}
use Rattle.job.proofs.reply.answer.Goals as goal

pub returns-clause-order : goal.returns-clause-order
returns-clause-order c = order_as_written
