-- Obeying recall from a quiet site empties it in as many calls as the toll says: each call lowers the toll by one. Assumes nothing.
use Rattle.std.proofs.Common.{◌≡◌, ℕ, zero, suc, ◌≤◌, true, false, Some, None, Ok, Err, Option, unwrap_or, sym, refl, ap, ◌∙◌, subst, inl, inr, arith}
use Rattle.std.proofs.lemmas.Bool.{true≢false, both_ways, cases_Bool, not_from_true, or_from, cond-true, cond-false}
use Rattle.gate.proofs.Sums.{zeros, sum_has}
use Rattle.gate.specs.Column.{held, runs, stands, robot}
use Rattle.gate.proofs.Below.{none_any}
use Rattle.gate.proofs.Picks.{Chosen, chosen}
use Rattle.gate.proofs.Recalling.{home_border, cond_some}
use Rattle.gate.specs.Gate.{granted, settle, off}
use Rattle.gate.specs.Recall.{cost_of, next_by, named, any_runs, best_below}
use Rattle.gate.specs.Scene.{any_below, Columns, height_at, state_at, tick_all}
use Rattle.gate.specs.declared.call.Call.{Call}
use Rattle.gate.specs.declared.call.Call.TheVariants.{Move, Leave}
use Rattle.gate.specs.declared.order.Order.{Order}
use Rattle.gate.specs.declared.column.State.{State}
use Rattle.gate.specs.declared.column.State.TheVariants.{Free, Standing, Busy}
use Rattle.ground.specs.Meaning.{Meaning, Lawful}
use Rattle.terms.specs.Durations.{SiteSettings}
use Rattle.terms.specs.Refusals.{told}
use Rattle.terms.specs.declared.refusal.Rule.TheVariants.{ActionRuns, NoRobot}
use Rattle.ways.proofs.Nearest.{Nearest, found}
use Rattle.undertaking.proofs.Plain.{Proper, relief, tests, answer, step, Obeyed, toll, robot_steps, recalled}
use Rattle.undertaking.specs.Obeying.{Empty, call_of}
use Rattle.gate.specs.Time.{Quiet}
use Rattle.ways.proofs.Exactness.{ways_exact}
use Rattle.ways.proofs.Tests.{near_decides}
use Rattle.ways.specs.Table.{near, steps}
use Rattle.ways.specs.Way.{Relief}
use Rattle.undertaking.proofs.Kept.{Kept}
use Rattle.undertaking.proofs.Ticks.{kept_tick}
use Rattle.undertaking.proofs.Asked.{none_applies, not_off}
use Rattle.undertaking.proofs.Allowed.{robot_within}
use Rattle.undertaking.proofs.Calls.{kept_step}
use Rattle.undertaking.proofs.Ends.{ends, rests}
use Rattle.undertaking.proofs.Due.{due, toll_due, Calm, quiet_calm, Level, level_tick, due_tick, level_leave, level_move, due_leave, due_move}

idle_stands : (t : State) → runs t ≡ false → robot t ≡ true → stands t ≡ true
idle_stands Free q r = r
idle_stands (Standing b) q r = refl
idle_stands (Busy p n) q r = absurd (true≢false q)

idle_free : (t : State) → runs t ≡ false → (robot t ≡ true → ⊥) → held t ≡ false
idle_free Free q r = refl
idle_free (Standing b) q r = absurd (r refl)
idle_free (Busy p n) q r = absurd (true≢false q)

module _ (m : Meaning) (s : SiteSettings) (law : Lawful m) (ok : Proper s) (xs : Columns) (k : Kept m s xs) (q : Quiet xs) where
  nothing_runs : any_below (λ c. runs (state_at xs c)) m.columns ≡ false
  nothing_runs = none_any (λ c. runs (state_at xs c)) m.columns (λ c _. q c)

  -- a robot has a way home, and so adds to the toll
  robot_toll : (c : ℕ) → robot (state_at xs c) ≡ true → 1 ≤ toll m xs
  robot_toll c r =
      let w = k.ways c r in
      let e = (ways_exact m (relief xs) law).complete c w.0 w.1 in
      let here = ap cost_of (cond-true (robot (state_at xs c)) (steps m (relief xs) c) None r ∙ e.1) in
      omega (arith, sum_has (λ c. cost_of (robot_steps m xs c)) m.columns c (robot_within m s law ok xs k c r), here)

  nobody_left : toll m xs ≡ 0 → Empty xs
  nobody_left e c = elim (cases_Bool (robot (state_at xs c))) [ inl r ↦ absurd (omega (arith, robot_toll c r)) | inr r ↦ r ]

  says_quiet : recalled m xs ≡ named m xs (steps m (relief xs)) (best_below (robot_steps m xs) m.columns)
  says_quiet =
      cond-false (any_runs m xs) (Err (told ActionRuns 0 0)) (named m xs (steps m (relief xs)) (best_below (robot_steps m xs) m.columns)) nothing_runs

  says_nobody : Empty xs → recalled m xs ≡ Err (told NoRobot 0 0)
  says_nobody h = says_quiet ∙ ap (named m xs (steps m (relief xs))) (go (best_below (robot_steps m xs) m.columns) (chosen (robot_steps m xs) m.columns))
    where
      go : (o : Option (ℕ × ℕ)) → Chosen (robot_steps m xs) m.columns o → o ≡ None
      go None c = refl
      go (Some p) c = absurd (both_ways (robot (state_at xs p.0)) (h p.0) (cond_some (robot (state_at xs p.0)) (steps m (relief xs) p.0) p.1 c.1).0)

  -- the call is granted, nothing changes height, and one call less is due
  record Advance (a : Call) (n : ℕ) : Type 0 where
    grant : answer m s xs a ≡ None
    level : Level xs (granted s xs a)
    less : due m (relief xs) (granted s xs a) ≡ n

  -- the robot picked, and that no robot has fewer steps
  module _ (n : ℕ) (total : toll m xs ≡ suc n) (c j : ℕ) (here : robot (state_at xs c) ≡ true) (far : steps m (relief xs) c ≡ Some j)
      (fewest : (e i : ℕ) → robot (state_at xs e) ≡ true → steps m (relief xs) e ≡ Some i → j ≤ i) where
    all_due : due m (relief xs) xs ≡ suc n
    all_due = sym (toll_due m xs q) ∙ total

    advance_leave : j ≡ 0 → Advance (Leave c) n
    advance_leave e =
        let border = home_border ((ways_exact m (relief xs) law).sound c j far) e in
        let g : answer m s xs (Leave c) ≡ None =
        none_applies (tests m s xs (Leave c))
        (not_off m c (robot_within m s law ok xs k c here), (not_from_true (stands (state_at xs c)) (idle_stands (state_at xs c) (q c) here), (not_from_true (m.border c) border, tt))) in
        record {
          grant = g;
          level = level_leave m s law ok xs k c g (quiet_calm xs q);
          less = omega (arith, due_leave m s law ok xs k (relief xs) c g, ap cost_of far, all_due);
        }

    advance_move : (i d : ℕ) → j ≡ suc i → Nearest m (relief xs) i c d → Advance (Move c d) n
    advance_move i d e near_one =
        let b = near_one in
        let on_c = not_off m c (robot_within m s law ok xs k c here) in
        let on_d = not_off m d (law.within c d b.link) in
        let empty_d = idle_free (state_at xs d) (q d) (λ r. let l = fewest d i r b.labelled in omega arith) in
        let g : answer m s xs (Move c d) ≡ None =
        none_applies (tests m s xs (Move c d)) (
          or_from (off m c) (off m d) on_c on_d,
          (
            not_from_true (stands (state_at xs c)) (idle_stands (state_at xs c) (q c) here),
            (
              not_from_true (m.linked c d) b.link,
              (
                empty_d,
                (not_from_true (near (height_at xs c) (height_at xs d)) ((near_decides (height_at xs c) (height_at xs d)).1 b.near), tt),
              ),
            ),
          ),
        ) in
        record {
          grant = g;
          level = level_move m s law ok xs k c d g (quiet_calm xs q);
          less = omega (arith, due_move m s law ok xs k (relief xs) c d g, ap cost_of far, ap cost_of b.labelled, all_due);
        }

    advance : (i : ℕ) → j ≡ i → Advance (call_of c (next_by m xs (steps m (relief xs)) c i)) n
    advance zero e = advance_leave e
    advance (suc i) e =
        let f = found m (relief xs) law c i (far ∙ ap Some e) in
        let P : ℕ → Type 0 = λ d. Advance (Move c d) n in
        subst P (sym (ap (λ o. unwrap_or o 0) f.1.is)) (advance_move i f.0 e f.1)

  -- recall names such a call
  record Says (n : ℕ) : Type 0 where
    order : Order
    says : recalled m xs ≡ Ok order
    counts : order.left ≡ suc n
    advances : Advance (call_of order.column order.next) n

  says_next : (n : ℕ) → toll m xs ≡ suc n → Says n
  says_next n total = go (best_below (robot_steps m xs) m.columns) refl (chosen (robot_steps m xs) m.columns)
    where
      go : (o : Option (ℕ × ℕ)) → best_below (robot_steps m xs) m.columns ≡ o → Chosen (robot_steps m xs) m.columns o → Says n
      go None e h = absurd (omega (arith, total, zeros (λ c. cost_of (robot_steps m xs c)) m.columns (λ c l. ap cost_of (h c l))))
      go (Some p) e h =
          let here = cond_some (robot (state_at xs p.0)) (steps m (relief xs) p.0) p.1 h.1 in
          record {
            order = record { column = p.0; next = next_by m xs (steps m (relief xs)) p.0 p.1; left = toll m xs };
            says = says_quiet ∙ ap (named m xs (steps m (relief xs))) e;
            counts = total;
            advances = advance n total p.0 p.1 here.0 here.1
                (λ e i r f. h.2 e i (robot_within m s law ok xs k e r) (cond-true (robot (state_at xs e)) (steps m (relief xs) e) None r ∙ f)) p.1 refl;
          }

module _ (m : Meaning) (s : SiteSettings) (law : Lawful m) (ok : Proper s) where
  -- what ticks keep while the call that was named runs
  record Going (r : Relief) (n : ℕ) (xs : Columns) : Type 0 where
    kept : Kept m s xs
    calm : Calm xs
    same : relief xs ≡ r
    total : due m r xs ≡ n

  going_tick : (r : Relief) (n : ℕ) (xs : Columns) → Going r n xs → Going r n (tick_all xs)
  going_tick r n xs g =
      let l = level_tick m xs g.calm in
      record { kept = kept_tick m s xs g.kept; calm = l.calm; same = l.same ∙ g.same; total = due_tick m r xs ∙ g.total }

  abbrev Cleared : Columns → ℕ → Type 0
  Cleared xs n = (end : Columns) × Obeyed m s xs n end × Empty end

  next_one : (n : ℕ) (xs : Columns) (k : Kept m s xs) (q : Quiet xs) → Says m s law ok xs k q n
      → ((ys : Columns) → Kept m s ys → Quiet ys → toll m ys ≡ n → Cleared ys n) → Cleared xs (suc n)
  next_one n xs k q w ih =
      let a = w.advances in
      let is : step m s xs (call_of w.order.column w.order.next) ≡ granted s xs (call_of w.order.column w.order.next) = ap (λ o. settle o (granted s xs (call_of w.order.column w.order.next)) xs) a.grant in
      let going : Going (relief xs) n (granted s xs (call_of w.order.column w.order.next)) =
      record { kept = let P : Columns → Type 0 = Kept m s in subst P is (kept_step m s law ok xs k (call_of w.order.column w.order.next)); calm = a.level.calm; same = a.level.same; total = a.less } in
      let P : Columns → Type 0 = Going (relief xs) n in
      let z = ends (step m s xs (call_of w.order.column w.order.next)) in
      let r = rests P (going_tick (relief xs) n) z.0 (step m s xs (call_of w.order.column w.order.next)) z.1 (subst P (sym is) going) in
      let g = r.kept in
      let c = ih r.end g.kept r.quiet (toll_due m r.end r.quiet ∙ ap (λ t. due m t r.end) g.same ∙ g.total) in
      (c.0, Obeyed.next {ys = r.end} {zs = c.0} w.order w.says w.counts a.grant r.rested c.1, c.2)

  pub clears : (n : ℕ) (xs : Columns) → Kept m s xs → Quiet xs → toll m xs ≡ n → Cleared xs n
  clears zero xs k q e = let h = nobody_left m s law ok xs k q e in (xs, Obeyed.done (says_nobody m s law ok xs k q h), h)
  clears (suc n) xs k q e = next_one n xs k q (says_next m s law ok xs k q n e) (clears n)
