-- A place that is filled is picked or leaves one fewer to pass, and any other is passed over.
use Rattle.std.proofs.Common.{sym, ap, ◌∙◌, arith}
use Rattle.std.specs.List.{slice_get}
use Rattle.std.proofs.lemmas.List.{at_drop_all}
use Rattle.ground.specs.Members.{somes}
use Rattle.ground.proofs.Picks.{pick_here, pick_later, pick_past}
use Rattle.ground.proofs.places.pick.Goals as goal
use Rattle.ground.proofs.places.pick.Goals.{in-Some+else-left-eq0, in_default}

pub returns-then-left-eq0 : goal.returns-then-left-eq0
returns-then-left-eq0 c =
    sym (pick_here c.args.places.now c.loop-place.place-index c.loop-place-test.true c.in-Some.linked c.loop-place.left c.in-Some.is c.if-left-eq0.true) ∙ c.loop-place.invariant

pub loop-place-preserved : goal.loop-place-preserved
loop-place-preserved c =
    let os = c.args.places.now in
    let i = c.loop-place.place-index in
    let lt = c.loop-place-test.true in
    elim c.match-place.branch [
      | in-Some+else-left-eq0 w ↦ ap (slice_get _) w.left-is ∙ sym (pick_later os i lt w.in-Some.linked c.loop-place.left w.in-Some.is (omega (arith, w.if-left-eq0.false))) ∙ c.loop-place.invariant
      | in_default w ↦ ap (slice_get _) w.left-is ∙ sym (pick_past os i lt c.loop-place.left w.in_default.is) ∙ c.loop-place.invariant
    ]

pub returns : goal.returns
returns c =
    sym (at_drop_all (λ xs. slice_get (somes xs) c.loop-place.left) c.args.places.now c.loop-place.place-index c.loop-place-test.false) ∙ c.loop-place.invariant
