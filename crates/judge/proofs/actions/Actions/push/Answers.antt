use Rattle.std.proofs.Common.{◌≡◌, ℕ, ◌<◌, ◌≤◌, count_by, ap₂, length, List, [], ◌∷◌, ◌++◌, vec_items, sym, subst, ap, ◌∙◌, arith}
use Rattle.std.proofs.lemmas.Bool.{ltb-false}
use Rattle.std.proofs.lemmas.List.{length-map, map_push}
use Rattle.plan.specs.declared.action.Action.{Action as Held}
use Rattle.plan.specs.Plan.{Action, delivers, is_deliver, is_pick_up, picks, line, no_action, runs}
use Rattle.plan.specs.View.{action_of, plan_of}
use Rattle.judge.specs.Finding.{Passed, Tally}
use Rattle.judge.specs.Figures.{most_at_once}
use Rattle.judge.specs.Judging.{latest_start}
use Rattle.judge.proofs.Heights.{delivering, picking, tally_push}
use Rattle.judge.proofs.Most.{most_push}
use Rattle.judge.proofs.Recent.{count_recent, none_runs}
use Rattle.judge.proofs.Settling.{each_pushed}
use Rattle.judge.proofs.Past.{latest_push}
use Rattle.judge.proofs.actions.Actions.push.Goals as goal

pushed : (xs : List Held) (x : Held) {ys : List Held} → ys ≡ xs ++ (x ∷ []) → plan_of ys ≡ plan_of xs ++ (action_of x ∷ [])
pushed xs x e = ap plan_of e ∙ map_push action_of xs x

pub pass-requires-clause-delivered : goal.pass-requires-clause-delivered
pass-requires-clause-delivered c =
    let old = c.args.self.now in
    let plan = plan_of old.list.items in
    let a = action_of c.args.action in
    let more = pushed old.list.items c.args.action (c.as_slice.ensures.value ∙ c.push_reserved.ensures.items) in
    subst (λ (ps : List Action). Tally delivers ps c.start-start.result old.past.count old.past.delivered) (sym more)
    (tally_push (λ b. is_deliver b.work) delivers delivering plan (latest_start plan) old.past.count old.past.delivered a c.start-start.result old.passed.within (omega (arith, ltb-false a.start (latest_start plan) c.requires.in_order, c.start-start.ensures)) old.delivered)

pub pass-requires-clause-picked : goal.pass-requires-clause-picked
pass-requires-clause-picked c =
    let old = c.args.self.now in
    let plan = plan_of old.list.items in
    let a = action_of c.args.action in
    let more = pushed old.list.items c.args.action (c.as_slice.ensures.value ∙ c.push_reserved.ensures.items) in
    subst (λ (ps : List Action). Tally picks ps c.start-start.result old.past.count old.past.picked) (sym more)
    (tally_push (λ b. is_pick_up b.work) picks picking plan (latest_start plan) old.past.count old.past.picked a c.start-start.result old.passed.within (omega (arith, ltb-false a.start (latest_start plan) c.requires.in_order, c.start-start.ensures)) old.picked)

pub invariant_of-self : goal.invariant_of-self
invariant_of-self c =
    let old = c.args.self.now in
    let xs = vec_items c.push_reserved.new.self in
    let past = c.pass.new.past in
    let same = c.as_slice.ensures.value in
    let now : c.start-start.result ≡ latest_start (plan_of xs) =
    c.start-start.ensures ∙ sym (ap latest_start (pushed old.list.items c.args.action c.push_reserved.ensures.items) ∙ latest_push (plan_of old.list.items) (action_of c.args.action)) in
    let plan = plan_of old.list.items in
    let a = action_of c.args.action in
    let more = pushed old.list.items c.args.action c.push_reserved.ensures.items in
    let late : latest_start plan ≤ a.start = ltb-false a.start (latest_start plan) c.requires.in_order in
    let begun : (i : ℕ) → i < length plan → (line plan i).start ≤ a.start = λ i l. omega (arith, old.in_order i l) in
    let crowd : c.running_at.result ≡ count_by (runs a.start) plan =
    c.running_at.ensures ∙ ap₂ (λ (t : ℕ) (ps : List Action). count_by (runs t) ps) c.start-start.ensures c.recent.ensures
    ∙ count_recent (runs a.start) no_action old.past.count plan (none_runs plan old.past.count old.passed a c.requires.in_order) in
    let all : (i : ℕ) → i < length (plan ++ (a ∷ [])) → (line (plan ++ (a ∷ [])) i).start ≤ latest_start (plan ++ (a ∷ [])) =
    λ i l. omega (arith, latest_push plan a, each_pushed (λ b. b.start ≤ a.start) plan a begun (omega arith) i l) in
    record {
      few = omega (arith, c.push_reserved.ensures.len, c.requires.few, length-map old.list.items action_of);
      room = omega (arith, c.push_reserved.ensures.capacity, old.room);
      in_order = subst (λ (ps : List Action). (i : ℕ) → i < length ps → (line ps i).start ≤ latest_start ps) (sym more) all;
      busiest = omega (arith, c.max-self.ensures, crowd, old.busiest, most_push plan a begun c.args.action.span.ordered, ap most_at_once more);
      passed = subst (λ t. Passed (plan_of xs) t past.count) now (subst (λ (ys : List Held). Passed (plan_of ys) c.start-start.result past.count) same c.pass.ensures.passed);
      delivered = subst (λ t. Tally delivers (plan_of xs) t past.count past.delivered) now (subst (λ (ys : List Held). Tally delivers (plan_of ys) c.start-start.result past.count past.delivered) same c.pass.ensures.delivered);
      picked = subst (λ t. Tally picks (plan_of xs) t past.count past.picked) now (subst (λ (ys : List Held). Tally picks (plan_of ys) c.start-start.result past.count past.picked) same c.pass.ensures.picked);
    }
