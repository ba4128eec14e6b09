use Rattle.std.proofs.Common.{◌≡◌, ◌-◌, length, take, vec_items}
use Rattle.terms.specs.Refusals.{first_of, from_on}
use Rattle.terms.specs.View.{settings_of}
use Rattle.plan.specs.Rules.{written_plan}
use Rattle.plan.specs.View.{plan_of}
use Rattle.judge.specs.Finding.{Settled}
use Rattle.judge.specs.Judging.{tests_at}
use Rattle.judge.proofs.judging.judge_lines.Given as goal

-- the actions so far are those of the lines so far and broke no rule; what is left decides as all do
abbrev pub invariant-loop-line : goal.invariant-loop-line
invariant-loop-line g l =
    (plan_of (vec_items l.above.list) ≡ take l.line-index (written_plan l.line-items)) ×
    Settled (g.G.Ground.meaning l.ground) (plan_of (vec_items l.above.list)) ×
    (first_of (from_on (tests_at (g.G.Ground.meaning l.ground) (settings_of l.settings) l.line-items) l.line-index (length l.line-items - l.line-index))
    ≡ first_of (from_on (tests_at (g.G.Ground.meaning l.ground) (settings_of l.settings) l.line-items) 0 (length l.line-items)))
