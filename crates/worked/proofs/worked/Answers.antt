-- by computation
use Rattle.std.proofs.Common.{refl}
use Rattle.ways.specs.Table.{after, steps}
use Rattle.sheet.specs.Reading.{reading_refusal}
use Rattle.judge.specs.Judging.{end_tests, judge_tests, judging_refusal}
use Rattle.draw.specs.Rows.{text}
use Rattle.job.specs.Replies.{answered}
use Rattle.worked.proofs.worked.Goals as goal

pub returns-clause-computed : goal.returns-clause-computed
unfolding answered reading_refusal judging_refusal judge_tests end_tests after steps text
returns-clause-computed c = refl
