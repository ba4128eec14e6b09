-- What clauses read of spans and actions. Assumes nothing.
use Rattle.std.specs.Prelude.{ℕ, List, map}
use Rattle.plan.specs.declared.span.Span.{Span}
use Rattle.plan.specs.declared.action.Action.{Action as Held}
use Rattle.plan.specs.Plan.{Action}

abbrev pub start_of : Span → ℕ
start_of s = s.start

abbrev pub end_of : Span → ℕ
end_of s = s.end

abbrev pub action_of : Held → Action
action_of a =
    record {
      line = a.line;
      work = a.work;
      from = a.from.column;
      to = a.to.column;
      from_height = a.from.height;
      to_height = a.to.height;
      carry = a.carry;
      start = start_of a.span;
      end = end_of a.span;
    }

abbrev pub plan_of : List Held → List Action
plan_of actions = map action_of actions
