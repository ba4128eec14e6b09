-- A tick keeps the site showing the plan, as long as no action is due. Assumes nothing.
use Rattle.std.proofs.Common.{◌≡◌, ℕ, suc, ◌+◌, ◌<◌, ◌≤◌, Bool, ◌&&◌, eqb, leb, ◌≢◌, ◌⊎◌, List, length, count_by, sym, refl, ap, ◌∙◌, subst, inl, inr, arith}
use Rattle.std.proofs.lemmas.List.{length-map}
use Rattle.std.proofs.lemmas.Bool.{cases_lt}
use Rattle.std.proofs.lemmas.Bool.Decides.{nat_tests}
use Rattle.terms.specs.Durations.{SiteSettings}
use Rattle.terms.specs.declared.work.Work.TheVariants.{Leave}
use Rattle.ground.specs.Meaning.{Meaning}
use Rattle.gate.specs.declared.column.Column.{Column}
use Rattle.gate.specs.declared.column.State.{State}
use Rattle.gate.specs.declared.column.State.TheVariants.{Free, Standing}
use Rattle.gate.specs.Column.{column, ticked}
use Rattle.gate.specs.Scene.{Columns, at, state_at, tick_all}
use Rattle.gate.specs.Scene.{height_at as height_in}
use Rattle.plan.specs.Plan.{Action, Ends, Runs, Touches, carry_after, delivers, end_column, is_deliver, is_pick_up, line, no_action, picks}
use Rattle.plan.proofs.Counts.{count_same, unit}
use Rattle.plan.proofs.Judged.{not_yet}
use Rattle.play.specs.Shown.{Holder, NoneStarts, shown}
use Rattle.play.specs.Shown.Holder.{by_running, by_ended}
use Rattle.play.proofs.Faces.{Fits, delivers_same, last_height, last_level, later, never_free, picks_same, rest_either, rest_end, rest_of, shown_last, shown_more}
use Rattle.gate.proofs.Ticked.{at_tick}
use Rattle.play.proofs.Counts.{count_but_one}
use Rattle.play.proofs.Plans.{Obeys, ended_ran, ended_touches, goes_on, longer, two}
use Rattle.play.proofs.Site.{Shows}

-- one that has ended counts
ended_now : (x y : Bool) (e t : ℕ) → e ≤ t → (x && (y && leb e t)) ≡ (x && y)
ended_now x y e t l = grind (arith, nat_tests)

module _ {m : Meaning} {s : SiteSettings} {plan : List Action} {targets : ℕ → ℕ} (ob : Obeys m s plan targets)
    {k t : ℕ} {xs : Columns} (sh : Shows m plan k t xs) (more : (i : ℕ) → k ≤ i → i < length plan → t < (line plan i).start) where
  in_plan : (i : ℕ) → i < k → i < length plan
  in_plan i l = omega (arith, sh.so_far)

  -- every action that has ended now is carried on
  none_waits : (i : ℕ) {c : ℕ} → i < k → Ends (line plan i) t c → NoneStarts plan k t c → ⊥
  none_waits i l e n =
      let (j, lj, st) = goes_on ob i (in_plan i l) e in
      elim (cases_lt j k) [ inl b ↦ n j b st | inr g ↦ omega (arith, more j g lj, st.when) ]

  state_next : (c : ℕ) (z : State) → state_at xs c ≡ z → at (tick_all xs) c ≡ later (height_in xs c) z
  state_next c z e = at_tick xs c ∙ ap (later (height_in xs c)) e

  -- an action that runs at t goes on, or is at its last tick
  went_on : (i c : ℕ) → i < k → Runs (line plan i) t → Touches (line plan i) c → suc t < (line plan i).end
      → at (tick_all xs) c ≡ column (height_in xs c) (shown (line plan i) (suc t) c)
  went_on i c l r w g = state_next c (shown (line plan i) t c) (sh.running i c l r w) ∙ shown_more (line plan i) (height_in xs c) t c g

  at_last : (i c : ℕ) → i < k → Runs (line plan i) t → Touches (line plan i) c → suc t ≡ (line plan i).end
      → at (tick_all xs) c
      ≡ column (last_height (line plan i).work (eqb (line plan i).from c) (height_in xs c)) (rest_of (line plan i).work (line plan i).carry (eqb (line plan i).from c))
  at_last i c l r w g = state_next c (shown (line plan i) t c) (sh.running i c l r w) ∙ shown_last (line plan i) (height_in xs c) t c g

  ran : (i : ℕ) → i < k → Runs (line plan i) (suc t) → Runs (line plan i) t
  ran i l r = record { begun = sh.begun i l; before_end = omega (arith, r.before_end) }

  running_next : (i c : ℕ) → i < k → Runs (line plan i) (suc t) → Touches (line plan i) c → state_at (tick_all xs) c ≡ shown (line plan i) (suc t) c
  running_next i c l r w = ap (λ (x : Column). x.state) (went_on i c l (ran i l r) w r.before_end)

  standing_next : (i c : ℕ) → i < k → Ends (line plan i) (suc t) c → state_at (tick_all xs) c ≡ Standing (carry_after (line plan i))
  standing_next i c l e =
      ap (λ (x : Column). x.state) (at_last i c l (ended_ran ob i (in_plan i l) e) (ended_touches e) (sym e.when))
      ∙ rest_end (line plan i).work (line plan i).carry (line plan i).from (line plan i).to c e.no_leave (two ob i (in_plan i l)) e.where_to

  explained_next : (c : ℕ) → (state_at (tick_all xs) c ≡ Free) ⊎ Holder plan k (suc t) c
  explained_next c = go (sh.explained c)
    where
      last : (i : ℕ) → i < k → Runs (line plan i) t → Touches (line plan i) c → suc t ≡ (line plan i).end
          → (((line plan i).work ≢ Leave) × (end_column (line plan i) ≡ c)) ⊎ (rest_of (line plan i).work (line plan i).carry (eqb (line plan i).from c) ≡ Free)
          → (state_at (tick_all xs) c ≡ Free) ⊎ Holder plan k (suc t) c
      last i l r w g (inl (n, e)) =
          inr (by_ended i l (record { no_leave = n; when = sym g; where_to = e }) (λ j lj st. omega (arith, sh.begun j lj, st.when)))
      last i l r w g (inr f) = inl (ap (λ (x : Column). x.state) (at_last i c l r w g) ∙ f)

      go : (state_at xs c ≡ Free) ⊎ Holder plan k t c → (state_at (tick_all xs) c ≡ Free) ⊎ Holder plan k (suc t) c
      go (inl e) = inl (ap (λ (x : Column). x.state) (state_next c Free e))
      go (inr (by_running i l r w)) =
          elim (cases_lt (suc t) (line plan i).end) [
            | inl g ↦ inr (by_running i l (record { begun = omega (arith, r.begun); before_end = g }) w)
            | inr g ↦ last i l r w (omega (arith, r.before_end))
                (rest_either (line plan i).work (line plan i).carry (line plan i).from (line plan i).to c (ob.rules.one_column i (in_plan i l)) w)
          ]
      go (inr (by_ended i l e n)) = absurd (none_waits i l e n)

  -- an action that ends at the next tick runs now, and was begun
  ends_next : (j : ℕ) → j < length plan → (line plan j).end ≡ suc t → (j < k) × Runs (line plan j) t
  ends_next j l e =
      let r : Runs (line plan j) t = record { begun = omega (arith, longer ob j l); before_end = omega arith } in
      (elim (cases_lt j k) [ inl b ↦ b | inr g ↦ absurd (omega (arith, more j g l, r.begun)) ], r)

  raised_next : (c : ℕ) → count_by (delivers (suc t) c) plan ≡ height_in (tick_all xs) c + count_by (picks (suc t) c) plan
  raised_next c = go (sh.explained c)
    where
      quiet : height_in (tick_all xs) c ≡ height_in xs c → ((j : ℕ) → j < length plan → (line plan j).to ≡ c → (line plan j).end ≡ suc t → ⊥)
          → count_by (delivers (suc t) c) plan ≡ height_in (tick_all xs) c + count_by (picks (suc t) c) plan
      quiet h n =
          omega (
            arith,
            sh.raised c,
            count_same (delivers (suc t) c) (delivers t c) no_action plan (λ j l. delivers_same (line plan j) t c (n j l)),
            count_same (picks (suc t) c) (picks t c) no_action plan (λ j l. picks_same (line plan j) t c (n j l)),
          )

      ended : (i : ℕ) → i < k → Runs (line plan i) t → Touches (line plan i) c → suc t ≡ (line plan i).end
          → count_by (delivers (suc t) c) plan ≡ height_in (tick_all xs) c + count_by (picks (suc t) c) plan
      ended i l r w g =
          let a : Action = line plan i in
          let li = in_plan i l in
          let only : (j : ℕ) → j < length plan → j ≢ i → (line plan j).to ≡ c → (line plan j).end ≡ suc t → ⊥ =
          λ j lj n o f. n (ob.rules.zones j i t c lj li (ends_next j lj f).1 r (inr o) w) in
          let d = count_but_one (delivers (suc t) c) (delivers t c) no_action plan i li (λ j lj n. delivers_same (line plan j) t c (only j lj n)) in
          let p = count_but_one (picks (suc t) c) (picks t c) no_action plan i li (λ j lj n. picks_same (line plan j) t c (only j lj n)) in
          let d_0 = ap unit (not_yet (is_deliver a.work) (eqb a.to c) a.end t r.before_end) in
          let p_0 = ap unit (not_yet (is_pick_up a.work) (eqb a.to c) a.end t r.before_end) in
          let d_1 = ap unit (ended_now (is_deliver a.work) (eqb a.to c) a.end (suc t) (omega arith)) in
          let p_1 = ap unit (ended_now (is_pick_up a.work) (eqb a.to c) a.end (suc t) (omega arith)) in
          let h = ap (λ (x : Column). x.height) (at_last i c l r w g) in
          let e = last_level a.work a.from a.to c (height_in xs c)
          (count_by (delivers t c) plan) (count_by (picks t c) plan) (count_by (delivers (suc t) c) plan) (count_by (picks (suc t) c) plan)
          (two ob i li) w
          (λ o. subst (λ (x : ℕ). Fits a.work (height_in xs x)) o (sh.fitting i l r))
          (sh.raised c) (omega (arith, d, d_0, d_1)) (omega (arith, p, p_0, p_1)) in
          omega (arith, e, h)

      go : (state_at xs c ≡ Free) ⊎ Holder plan k t c → count_by (delivers (suc t) c) plan ≡ height_in (tick_all xs) c + count_by (picks (suc t) c) plan
      go (inl e) =
          quiet (ap (λ (x : Column). x.height) (state_next c Free e))
          (λ j l o f. let b = ends_next j l f in never_free (line plan j) t c (state_at xs c) e (sh.running j c b.0 b.1 (inr o)))
      go (inr (by_running i l r w)) =
          elim (cases_lt (suc t) (line plan i).end) [
            | inl g ↦ quiet (ap (λ (x : Column). x.height) (went_on i c l r w g))
                (λ j lj o f. let b = ends_next j lj f in
                let q : j ≡ i = ob.rules.zones j i t c lj (in_plan i l) b.1 r (inr o) w in
                omega (arith, ap (λ (x : ℕ). (line plan x).end) q))
            | inr g ↦ ended i l r w (omega (arith, r.before_end))
          ]
      go (inr (by_ended i l e n)) = absurd (none_waits i l e n)

  fitting_next : (i : ℕ) → i < k → Runs (line plan i) (suc t) → Fits (line plan i).work (height_in (tick_all xs) (line plan i).to)
  fitting_next i l r =
      let h : height_in (tick_all xs) (line plan i).to ≡ height_in xs (line plan i).to =
      ap (λ (x : Column). x.height) (went_on i (line plan i).to l (ran i l r) (inr refl) r.before_end) in
      subst (Fits (line plan i).work) (sym h) (sh.fitting i l (ran i l r))

  pub shows_tick : Shows m plan k (suc t) (tick_all xs)
  shows_tick =
      record {
        size = length-map xs ticked ∙ sh.size;
        so_far = sh.so_far;
        begun = λ i l. omega (arith, sh.begun i l);
        coming = λ i g l. omega (arith, more i g l);
        running = running_next;
        standing = λ i c l e _. standing_next i c l e;
        explained = explained_next;
        raised = raised_next;
        fitting = fitting_next;
      }
