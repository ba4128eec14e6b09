-- No series of calls without a lay or a lift empties a quiet site with fewer moves and leaves than the toll:
-- a move and a leave each lower what is due by one at most, and nothing else lowers it. Assumes nothing.
use Rattle.std.proofs.Common.{◌≡◌, ℕ, suc, ◌+◌, ◌≤◌, Bool, true, false, List, [], ◌∷◌, Some, None, Option, sym, refl, ap, ◌∙◌, subst, arith}
use Rattle.std.proofs.lemmas.Bool.{both_ways}
use Rattle.gate.proofs.Sums.{zeros}
use Rattle.gate.specs.Column.{robot}
use Rattle.gate.specs.Gate.{granted, settle}
use Rattle.gate.specs.Recall.{cost_of}
use Rattle.gate.specs.Scene.{Columns, height_at, state_at}
use Rattle.gate.specs.declared.call.Call.{Call}
use Rattle.gate.specs.declared.call.Call.TheVariants.{Enter, Move, Lay, Lift, Leave, Tick, Recall}
use Rattle.gate.specs.declared.column.Part.TheVariants.{Entering, Leaving, Departing, Arriving, Laying, Rising, Lifting, Sinking}
use Rattle.gate.specs.declared.column.State.{State}
use Rattle.gate.specs.declared.column.State.TheVariants.{Free, Standing, Busy}
use Rattle.ground.specs.Meaning.{Meaning, Lawful}
use Rattle.terms.specs.Durations.{SiteSettings}
use Rattle.terms.specs.Refusals.{Told}
use Rattle.undertaking.proofs.Plain.{Proper, relief, answer, run, tally, toil_of, building_of}
use Rattle.undertaking.specs.Obeying.{Empty}
use Rattle.ways.proofs.Exactness.{ways_exact}
use Rattle.ways.specs.Table.{steps}
use Rattle.ways.specs.Way.{Relief, Near}
use Rattle.ways.specs.Way.Way.{home, onward}
use Rattle.undertaking.proofs.Kept.{Kept}
use Rattle.undertaking.proofs.Allowed.{leaves, moves_ready}
use Rattle.undertaking.proofs.Calls.{kept_step}
use Rattle.undertaking.proofs.Due.{comes, weight, cost, due, Calm, Level, level_tick, due_tick, level_enter, level_leave, level_move, due_enter, due_leave, due_move}

-- where no robot is and none arrives, none will stand
none_comes : (t : State) → robot t ≡ false → ((b : Bool) (d n : ℕ) → t ≡ Busy (Arriving b d) n → ⊥) → (w : ℕ) → weight (comes t) w ≡ 0
none_comes Free r a w = refl
none_comes (Standing b) r a w = let z : ◌≡◌ {A = ℕ} 0 1 = cc in absurd (omega arith)
none_comes (Busy (Entering b) n) r a w = let z : ◌≡◌ {A = ℕ} 0 1 = cc in absurd (omega arith)
none_comes (Busy (Leaving b) n) r a w = refl
none_comes (Busy (Departing b d) n) r a w = refl
none_comes (Busy (Arriving b d) n) r a w = absurd (a b d n refl)
none_comes (Busy (Laying d) n) r a w = let z : ◌≡◌ {A = ℕ} 0 1 = cc in absurd (omega arith)
none_comes (Busy (Rising d) n) r a w = refl
none_comes (Busy (Lifting d) n) r a w = let z : ◌≡◌ {A = ℕ} 0 1 = cc in absurd (omega arith)
none_comes (Busy (Sinking d) n) r a w = refl

module _ (m : Meaning) (s : SiteSettings) (law : Lawful m) (ok : Proper s) (r : Relief) where
  -- nothing is due on an empty site
  empty_due : (xs : Columns) → Kept m s xs → Empty xs → due m r xs ≡ 0
  empty_due xs k h =
      zeros (λ c. weight (comes (state_at xs c)) (cost m r c)) m.columns
      (λ c _. none_comes (state_at xs c) (h c)
      (λ b d n e. both_ways (robot (state_at xs d)) (h d) (ap robot (k.faces c d (Arriving b d) n e refl).state)) (cost m r c))

  -- linked columns within one height differ by one step at most
  step_costs : (c d : ℕ) → m.linked c d ≡ true → Near (r.heights c) (r.heights d) → r.changing c ≡ false → r.changing d ≡ false → cost m r c ≤ cost m r d + 1
  step_costs c d l g hc hd = go (steps m r c) refl
    where
      go : (o : Option ℕ) → steps m r c ≡ o → cost m r c ≤ cost m r d + 1
      go None e = omega (arith, ap cost_of e)
      go (Some i) e =
          let x = ways_exact m r law in
          let back = onward (law.both_ways c d l) (record { up = g.down; down = g.up }) hd (x.sound c i e) in
          let f = x.complete d (suc i) back in
          let there = onward l g hc (x.sound d f.0 f.1) in
          omega (arith, x.least c i (suc f.0) e there, ap cost_of e, ap cost_of f.1)

  border_costs : (c : ℕ) → m.border c ≡ true → r.changing c ≡ false → cost m r c ≤ 1
  border_costs c b h = go (steps m r c) refl
    where
      go : (o : Option ℕ) → steps m r c ≡ o → cost m r c ≤ 1
      go None e = omega (arith, ap cost_of e)
      go (Some i) e = omega (arith, (ways_exact m r law).least c i 0 e (home b h), ap cost_of e)

  -- a granted call that builds nothing
  record Effect (xs : Columns) (a : Call) : Type 0 where
    level : Level xs (granted s xs a)
    falls : due m r xs ≤ due m r (granted s xs a) + toil_of xs a

  module _ (xs : Columns) (k : Kept m s xs) (calm : Calm xs) (lies : relief xs ≡ r) where
    settled_here : (c : ℕ) → r.changing c ≡ false
    settled_here c = ap (λ (t : Relief). t.changing c) (sym lies) ∙ calm c

    near_here : (c d : ℕ) → Near (height_at xs c) (height_at xs d) → Near (r.heights c) (r.heights d)
    near_here c d g = let P : Relief → Type 0 = λ t. Near (t.heights c) (t.heights d) in subst P lies g

    effect : (a : Call) → answer m s xs a ≡ None → building_of xs a ≡ 0 → Effect xs a
    effect (Enter c b) e z = record { level = level_enter m s law ok xs k c b e calm; falls = omega (arith, due_enter m s law ok xs k r c b e) }
    effect (Move c d) e z =
        let y = moves_ready m s law ok xs k c d e in
        record {
          level = level_move m s law ok xs k c d e calm;
          falls = omega (arith, due_move m s law ok xs k r c d e, step_costs c d y.link (near_here c d y.near) (settled_here c) (settled_here d));
        }
    effect (Lay c d) e z = absurd (omega arith)
    effect (Lift c d) e z = absurd (omega arith)
    effect (Leave c) e z =
        record {
          level = level_leave m s law ok xs k c e calm;
          falls = omega (arith, due_leave m s law ok xs k r c e, border_costs c (leaves m s law ok xs k c e).border (settled_here c));
        }
    effect Tick e z = record { level = level_tick m xs calm; falls = omega (arith, due_tick m r xs) }
    effect Recall e z = record { level = record { calm = calm; same = refl }; falls = omega arith }

  -- the calls ks from xs make no less than what is due
  abbrev Enough : Columns → List Call → Type 0
  Enough xs ks = Empty (run m s xs ks) → tally building_of m s xs ks ≡ 0 → due m r xs ≤ tally toil_of m s xs ks

  pub least : (ks : List Call) (xs : Columns) → Kept m s xs → Calm xs → relief xs ≡ r → Enough xs ks
  least [] xs k calm lies = λ h z. omega (arith, empty_due xs k h)
  least (a ∷ ks) xs k calm lies = go (answer m s xs a) refl (kept_step m s law ok xs k a) (least ks)
    where
      go : (o : Option Told) → answer m s xs a ≡ o → Kept m s (settle o (granted s xs a) xs)
          → ((ys : Columns) → Kept m s ys → Calm ys → relief ys ≡ r → Enough ys ks)
          → Empty (run m s (settle o (granted s xs a) xs) ks)
          → settle o (building_of xs a) 0 + tally building_of m s (settle o (granted s xs a) xs) ks ≡ 0
          → due m r xs ≤ settle o (toil_of xs a) 0 + tally toil_of m s (settle o (granted s xs a) xs) ks
      go (Some x) e k' ih h z = omega (arith, ih xs k calm lies h (omega arith))
      go None e k' ih h z =
          let f = effect xs k calm lies a e (omega arith) in
          omega (arith, f.falls, ih (granted s xs a) k' f.level.calm (f.level.same ∙ lies) h (omega arith))
