-- The figures that are computed are what they are in words. Assumes nothing.
use Rattle.std.proofs.Common.{ℕ, List, refl, arith}
use Rattle.plan.specs.Plan.{Action, makespan, no_action}
use Rattle.plan.proofs.Judged.{ends_by}
use Rattle.judge.specs.Figures.{Computed, Figures}
use Rattle.judge.proofs.Most.{most_never, most_reached}
use Rattle.judge.proofs.Searches.{largest_at}

pub figured : (plan : List Action) (m c k : ℕ) → Computed plan m c k → Figures plan m c k
figured plan m c k is =
    record {
      all_end = λ i l. omega (arith, ends_by plan i l, is.makespan_so);
      one_ends = rw is.makespan_so (largest_at makespan (λ a. a.end) refl (λ _ _. refl) no_action plan);
      summed = is.costs_so;
      reached = let once = most_reached plan in (once.0, omega (arith, once.1, is.most_so));
      never_more = λ t. omega (arith, most_never plan t, is.most_so);
    }
