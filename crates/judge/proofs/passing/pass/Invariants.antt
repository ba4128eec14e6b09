use Rattle.std.proofs.Common.{length, ◌-◌}
use Rattle.plan.specs.Plan.{delivers, picks}
use Rattle.plan.specs.View.{plan_of}
use Rattle.judge.specs.Finding.{Passed, Tally}
use Rattle.judge.proofs.passing.pass.Given as goal

-- those up to here ended before the time
abbrev pub invariant-loop-past : goal.invariant-loop-past
invariant-loop-past l =
    Passed (plan_of l.list) l.time l.past.count
    × Tally delivers (plan_of l.list) l.time l.past.count l.past.delivered
    × Tally picks (plan_of l.list) l.time l.past.count l.past.picked

abbrev pub decreases-loop-past : goal.decreases-loop-past
decreases-loop-past l = length l.list - l.past.count
