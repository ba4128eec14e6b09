-- Every site that was opened and only called keeps the law of durations. Assumes nothing.
use Rattle.std.proofs.Common.{◌≡◌, ℕ, zero, suc, pred, ◌-◌, ◌<◌, Bool, true, false, cond, ◌≢◌, ◌⊎◌, List, [], ◌∷◌, ◌++◌, Some, None, Option, sym, refl, ap, ◌∙◌, subst, inl, inr, arith}
use Rattle.terms.specs.Durations.{SiteSettings}
use Rattle.terms.specs.Refusals.{Told}
use Rattle.ground.specs.Meaning.{Meaning, Lawful}
use Rattle.gate.specs.declared.call.Call.{Call}
use Rattle.gate.specs.declared.call.Call.TheVariants.{Enter, Move, Lay, Lift, Leave, Tick, Recall}
use Rattle.gate.specs.declared.column.Column.{Column}
use Rattle.gate.specs.declared.column.Part.{Part}
use Rattle.gate.specs.declared.column.Part.TheVariants.{Entering, Leaving, Departing, Arriving, Laying, Rising, Lifting, Sinking}
use Rattle.gate.specs.declared.column.State.{State}
use Rattle.gate.specs.declared.column.State.TheVariants.{Free, Standing, Busy}
use Rattle.gate.specs.Column.{column, carries, rest, stays, built, next, next_height}
use Rattle.gate.specs.Scene.{Columns, Scene, at, height_at, state_at, begin, tick_all}
use Rattle.gate.specs.Gate.{granted, settle}
use Rattle.gate.specs.Gate.{step as scene_step}
use Rattle.undertaking.specs.Runs.{ticks, run as run_of}
use Rattle.undertaking.specs.Lasting.{Is, UnderWay, Ended, Takes, About, Unasked, Builds, lasting, Lasts}
use Rattle.undertaking.proofs.Plain.{Proper, answer, step, run}
use Rattle.undertaking.proofs.Seen.{Begun}
use Rattle.undertaking.proofs.Kept.{Kept}
use Rattle.undertaking.proofs.Ticks.{state_tick, height_tick}
use Rattle.undertaking.proofs.Grants.{Ready}
use Rattle.undertaking.proofs.Allowed.{move_time, one_higher, ready_begun, enters, leaves, moves_ready, lays_ready, lifts_ready}
use Rattle.undertaking.proofs.Calls.{kept_step}
use Rattle.undertaking.proofs.Scenes.{scene, same_refusal, step_scene, run_scene}
use Rattle.undertaking.proofs.Enduring.{NoTick, step_calm, endures, finishes}

module _ (m : Meaning) (s : SiteSettings) (law : Lawful m) (ok : Proper s) where
  module _ (ys : Columns) (k : Kept m s ys) (c h n : ℕ) (p : Part) (is : at ys c ≡ column h (Busy p n)) where
    goes : (ks : List Call) → ticks ks < n → Is (run m s ys ks) c h (Busy p (n - ticks ks))
    goes ks l =
        let r = endures m s law ok ks ys k c p n (ap (λ (x : Column). x.state) is) l in
        record { state = r.state; height = r.height ∙ ap (λ (x : Column). x.height) is }

    done : (ks : List Call) → suc (ticks ks) ≡ n → Is (run m s ys (ks ++ Tick ∷ [])) c (built p h) (rest (stays p))
    done ks l =
        let r = finishes m s law ok ks ys k c p n (ap (λ (x : Column). x.state) is) l in
        record { state = r.state; height = r.height ∙ ap (λ (x : Column). built p x.height) is }

  module _ (xs : Columns) (k : Kept m s xs) where
    after : (a : Call) → answer m s xs a ≡ None → Kept m s (granted s xs a)
    after a e = let P : Option Told → Type 0 = λ o. Kept m s (settle o (granted s xs a) xs) in subst P e (kept_step m s law ok xs k a)

    two : (c d : ℕ) (p : Part) (n : ℕ) → Ready m s xs c d p n → Begun xs (begin xs c d p n) c d p n
    two c d p n y = ready_begun m s law ok xs k c d p n y

    under_way : (a : Call) → answer m s xs a ≡ None → (ks : List Call) → ticks ks < lasting (scene m s xs) a
        → UnderWay xs a (run m s (granted s xs a) ks) (lasting (scene m s xs) a - ticks ks)
    under_way (Enter c b) e ks l =
        goes (granted s xs (Enter c b)) (after (Enter c b) e) c (height_at xs c) s.times.entry (Entering b) (enters m s law ok xs k c b e).begun.here ks l
    under_way (Move c d) e ks l =
        let b = carries (state_at xs c) in
        let g = two c d (Departing b d) (move_time s xs c) (moves_ready m s law ok xs k c d e) in
        let ys = granted s xs (Move c d) in
        let k' = after (Move c d) e in
        (goes ys k' c (height_at xs c) (move_time s xs c) (Departing b d) g.here ks l, goes ys k' d (height_at xs d) (move_time s xs c) (Arriving b c) g.there ks l)
    under_way (Lay c d) e ks l =
        let g = two c d (Laying d) s.times.deliver (lays_ready m s law ok xs k c d e) in
        let ys = granted s xs (Lay c d) in
        let k' = after (Lay c d) e in
        (goes ys k' c (height_at xs c) s.times.deliver (Laying d) g.here ks l, goes ys k' d (height_at xs d) s.times.deliver (Rising c) g.there ks l)
    under_way (Lift c d) e ks l =
        let g = two c d (Lifting d) s.times.pickup (lifts_ready m s law ok xs k c d e) in
        let ys = granted s xs (Lift c d) in
        let k' = after (Lift c d) e in
        (goes ys k' c (height_at xs c) s.times.pickup (Lifting d) g.here ks l, goes ys k' d (height_at xs d) s.times.pickup (Sinking c) g.there ks l)
    under_way (Leave c) e ks l =
        goes (granted s xs (Leave c)) (after (Leave c) e) c (height_at xs c) s.times.leave (Leaving (carries (state_at xs c))) (leaves m s law ok xs k c e).begun.here ks l
    under_way Tick e ks l = tt
    under_way Recall e ks l = tt

    ended : (a : Call) → answer m s xs a ≡ None → (ks : List Call) → suc (ticks ks) ≡ lasting (scene m s xs) a → Ended xs a (run m s (granted s xs a) (ks ++ Tick ∷ []))
    ended (Enter c b) e ks l =
        done (granted s xs (Enter c b)) (after (Enter c b) e) c (height_at xs c) s.times.entry (Entering b) (enters m s law ok xs k c b e).begun.here ks l
    ended (Move c d) e ks l =
        let b = carries (state_at xs c) in
        let g = two c d (Departing b d) (move_time s xs c) (moves_ready m s law ok xs k c d e) in
        let ys = granted s xs (Move c d) in
        let k' = after (Move c d) e in
        (done ys k' c (height_at xs c) (move_time s xs c) (Departing b d) g.here ks l, done ys k' d (height_at xs d) (move_time s xs c) (Arriving b c) g.there ks l)
    ended (Lay c d) e ks l =
        let g = two c d (Laying d) s.times.deliver (lays_ready m s law ok xs k c d e) in
        let ys = granted s xs (Lay c d) in
        let k' = after (Lay c d) e in
        let risen = done ys k' d (height_at xs d) s.times.deliver (Rising c) g.there ks l in (
          done ys k' c (height_at xs c) s.times.deliver (Laying d) g.here ks l,
          record { state = risen.state; height = risen.height ∙ one_higher (height_at xs d) (omega (arith, (k.fits d).low, ok.few_levels)) },
        )
    ended (Lift c d) e ks l =
        let y = lifts_ready m s law ok xs k c d e in
        let g = two c d (Lifting d) s.times.pickup y in
        let ys = granted s xs (Lift c d) in
        let k' = after (Lift c d) e in
        let high = y.sunk c refl in
        let one : height_at xs d ≡ suc (pred (height_at xs d)) = omega arith in
        (done ys k' c (height_at xs c) s.times.pickup (Lifting d) g.here ks l, (pred (height_at xs d), one, done ys k' d (height_at xs d) s.times.pickup (Sinking c) g.there ks l))
    ended (Leave c) e ks l =
        done (granted s xs (Leave c)) (after (Leave c) e) c (height_at xs c) s.times.leave (Leaving (carries (state_at xs c))) (leaves m s law ok xs k c e).begun.here ks l
    ended Tick e ks l = tt
    ended Recall e ks l = tt

    takes : (a : Call) → answer m s xs a ≡ None → Takes (scene m s xs) a (lasting (scene m s xs) a)
    takes (Enter c b) e = refl
    takes (Move c d) e = go (carries (state_at xs c)) refl
      where
        go : (b : Bool) → carries (state_at xs c) ≡ b → Takes (scene m s xs) (Move c d) (move_time s xs c)
        go true q = inl ((moves_ready m s law ok xs k c d e).stood ∙ ap (λ x. Standing x) q, ap (λ x. cond x s.times.loaded s.times.empty) q)
        go false q = inr ((moves_ready m s law ok xs k c d e).stood ∙ ap (λ x. Standing x) q, ap (λ x. cond x s.times.loaded s.times.empty) q)
    takes (Lay c d) e = refl
    takes (Lift c d) e = refl
    takes (Leave c) e = refl
    takes Tick e = tt
    takes Recall e = tt

    -- the site after the grant and more calls, by its columns
    same_run : (a : Call) → answer m s xs a ≡ None → (ks : List Call) → (run_of (scene_step (scene m s xs) a) ks).columns ≡ run m s (granted s xs a) ks
    same_run a e ks =
        ap (λ v. (run_of v ks).columns) (step_scene m s law ok xs k a ∙ ap (λ o. scene m s (settle o (granted s xs a) xs)) e)
        ∙ ap (λ (v : Scene). v.columns) (run_scene m s law ok ks (granted s xs a) (after a e))

    -- a standing robot is where it was, unless a call about it is granted
    module _ (c : ℕ) (b : Bool) (stood : state_at xs c ≡ Standing b) where
      untouched : {ys : Columns} → at ys c ≡ at xs c → Is ys c (height_at xs c) (Standing b)
      untouched e = record { state = ap (λ (x : Column). x.state) e ∙ stood; height = ap (λ (x : Column). x.height) e }

      not_there : (d : ℕ) → state_at xs d ≡ Free → c ≢ d
      not_there d f e = let z : ◌≡◌ {A = ℕ} 0 1 = cc (ap (state_at xs) e) in omega arith

      beside : (e d : ℕ) (p : Part) (n : ℕ) → Ready m s xs e d p n → (e ≡ c → ⊥) → Is (begin xs e d p n) c (height_at xs c) (Standing b)
      beside e d p n y u = untouched ((two e d p n y).else c (λ i. u (sym i)) (not_there d y.was_free))

      stands_grant : (a : Call) → answer m s xs a ≡ None → (About c a → ⊥) → Is (granted s xs a) c (height_at xs c) (Standing b)
      stands_grant (Enter e f) i u = untouched ((enters m s law ok xs k e f i).begun.else c (λ j. u (sym j)))
      stands_grant (Move e d) i u = beside e d (Departing (carries (state_at xs e)) d) (move_time s xs e) (moves_ready m s law ok xs k e d i) u
      stands_grant (Lay e d) i u = beside e d (Laying d) s.times.deliver (lays_ready m s law ok xs k e d i) u
      stands_grant (Lift e d) i u = beside e d (Lifting d) s.times.pickup (lifts_ready m s law ok xs k e d i) u
      stands_grant (Leave e) i u = untouched ((leaves m s law ok xs k e i).begun.else c (λ j. u (sym j)))
      stands_grant Tick i u =
          record { state = state_tick m xs c ∙ ap next stood; height = height_tick m xs c ∙ ap (λ t. next_height t (height_at xs c)) stood }
      stands_grant Recall i u = untouched refl

      stands_step : (a : Call) → (answer m s xs a ≡ None → About c a → ⊥) → Is (step m s xs a) c (height_at xs c) (Standing b)
      stands_step a u = go (answer m s xs a) refl
        where
          go : (o : Option Told) → answer m s xs a ≡ o → Is (settle o (granted s xs a) xs) c (height_at xs c) (Standing b)
          go None e = stands_grant a e (u e)
          go (Some r) e = untouched refl

    -- a height changes only where a lay or a lift ends
    tick_builds : (c : ℕ) (t : State) → state_at xs c ≡ t → (height_at (tick_all xs) c ≡ height_at xs c) ⊎ Builds (scene m s xs) c Tick
    tick_builds c t i = go t i (height_tick m xs c ∙ ap (λ u. next_height u (height_at xs c)) i)
      where
        last : (p : Part) → state_at xs c ≡ Busy p 1 → height_at (tick_all xs) c ≡ built p (height_at xs c) → (height_at (tick_all xs) c ≡ height_at xs c) ⊎ Builds (scene m s xs) c Tick
        last (Entering b) i h = inl h
        last (Leaving b) i h = inl h
        last (Departing b d) i h = inl h
        last (Arriving b d) i h = inl h
        last (Laying d) i h = inl h
        last (Rising f) i h = inr (record { at_tick = refl; from = f; how = inl (i, h ∙ one_higher (height_at xs c) (omega (arith, (k.fits c).low, ok.few_levels))) })
        last (Lifting d) i h = inl h
        last (Sinking f) i h =
            let high = (k.fits c).sunk f 1 i in
            let one : suc (pred (height_at xs c)) ≡ height_at xs c = omega arith in
            inr (record { at_tick = refl; from = f; how = inr (i, ap suc h ∙ one) })

        go : (u : State) → state_at xs c ≡ u → height_at (tick_all xs) c ≡ next_height u (height_at xs c) → (height_at (tick_all xs) c ≡ height_at xs c) ⊎ Builds (scene m s xs) c Tick
        go Free i h = inl h
        go (Standing b) i h = inl h
        go (Busy p zero) i h = absurd (omega (arith, (k.fits c).timed p 0 i))
        go (Busy p (suc zero)) i h = last p i h
        go (Busy p (suc (suc n))) i h = inl h

    calm_height : (a : Call) → NoTick a → (c : ℕ) → height_at (scene_step (scene m s xs) a).columns c ≡ height_at xs c
    calm_height a t c = ap (λ (v : Scene). height_at v.columns c) (step_scene m s law ok xs k a) ∙ (step_calm m s law ok xs k a t).heights c

    builds : (a : Call) (c : ℕ) → (height_at (scene_step (scene m s xs) a).columns c ≡ height_at xs c) ⊎ Builds (scene m s xs) c a
    builds (Enter e b) c = inl (calm_height (Enter e b) tt c)
    builds (Move e d) c = inl (calm_height (Move e d) tt c)
    builds (Lay e d) c = inl (calm_height (Lay e d) tt c)
    builds (Lift e d) c = inl (calm_height (Lift e d) tt c)
    builds (Leave e) c = inl (calm_height (Leave e) tt c)
    builds Tick c = tick_builds c (state_at xs c) refl
    builds Recall c = inl (calm_height Recall tt c)

  stands_on : (ks : List Call) (xs : Columns) → Kept m s xs → (c : ℕ) (b : Bool) → state_at xs c ≡ Standing b → Unasked c (scene m s xs) ks
      → Is (run m s xs ks) c (height_at xs c) (Standing b)
  stands_on [] xs k c b i u = record { state = i; height = refl }
  stands_on (a ∷ ks) xs k c b i u =
      let now = stands_step xs k c b i a (λ e. u.0 (same_refusal m s law ok xs k a ∙ e)) in
      let P : Scene → Type 0 = λ v. Unasked c v ks in
      let r = stands_on ks (step m s xs a) (kept_step m s law ok xs k a) c b now.state (subst P (step_scene m s law ok xs k a) u.1) in
      record { state = r.state; height = r.height ∙ now.height }

  pub lasts : (xs : Columns) → Kept m s xs → Lasts (scene m s xs)
  lasts xs k =
      record {
        takes = λ a e. takes xs k a (sym (same_refusal m s law ok xs k a) ∙ e);
        runs_on = λ a e ks l. let i = sym (same_refusal m s law ok xs k a) ∙ e in
            let P : Columns → Type 0 = λ ys. UnderWay xs a ys (lasting (scene m s xs) a - ticks ks) in
            subst P (sym (same_run xs k a i ks)) (under_way xs k a i ks l);
        ends_so = λ a e ks l. let i = sym (same_refusal m s law ok xs k a) ∙ e in
            let P : Columns → Type 0 = Ended xs a in
            subst P (sym (same_run xs k a i (ks ++ Tick ∷ []))) (ended xs k a i ks l);
        stands_on = λ c b i ks u. let P : Columns → Type 0 = λ ys. Is ys c (height_at xs c) (Standing b) in
            subst P (sym (ap (λ (v : Scene). v.columns) (run_scene m s law ok ks xs k))) (stands_on ks xs k c b i u);
        builds_only = builds xs k;
      }
