use Rattle.std.proofs.Common.{arith}
use Rattle.console.proofs.Lining.{takes_one}
use Rattle.console.proofs.cut.cut_sheet.Goals as goal

pub loop-ended-preserved : goal.loop-ended-preserved
loop-ended-preserved c =
    takes_one c.args.text.now c.loop-ended.rest.now c.cut_line.result.0.now c.cut_line.result.1.now c.loop-ended.count _ c.loop-ended.ended c.starts_with-ended.result
    c.loop-ended.invariant c.loop-ended-test.true c.cut_line.ensures.lines c.cut_line.ensures.all c.cut_line.ensures.shorter c.starts_with-ended.ensures.value (omega arith)
