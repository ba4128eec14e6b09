use Rattle.std.proofs.Common.{vec_items, length, sym, ap, ◌∙◌, subst, arith}
use Rattle.std.proofs.lemmas.List.{nil_from_length}
use Rattle.plan.specs.Plan.{delivers, is_deliver, is_pick_up, picks}
use Rattle.plan.specs.View.{plan_of}
use Rattle.judge.specs.Finding.{Passed}
use Rattle.judge.specs.Figures.{most_at_once}
use Rattle.judge.specs.Judging.{latest_start}
use Rattle.judge.proofs.Heights.{delivering, picking, tally_none}
use Rattle.judge.proofs.Past.{passed_none}
use Rattle.judge.proofs.actions.Actions.none.Goals as goal

pub invariant_of-result : goal.invariant_of-result
invariant_of-result c =
    let none = ap plan_of (nil_from_length (vec_items c.into_vec.result) (sym c.into_vec.result.ok.0 ∙ c.into_vec.ensures.none)) in
    let plan = plan_of (vec_items c.into_vec.result) in
    let t = latest_start plan in
    let past = c.none.result in
    record {
      few = omega (arith, c.into_vec.ensures.none);
      room = c.into_vec.ensures.room;
      in_order = λ i l. absurd (omega (arith, ap length none));
      busiest = sym (ap most_at_once none);
      passed = subst (λ n. Passed plan t n) (sym c.none.ensures.count) (passed_none plan t);
      delivered = tally_none (λ a. is_deliver a.work) delivers delivering plan t past.count past.delivered c.none.ensures.delivered c.none.ensures.count;
      picked = tally_none (λ a. is_pick_up a.work) picks picking plan t past.count past.picked c.none.ensures.picked c.none.ensures.count;
    }
