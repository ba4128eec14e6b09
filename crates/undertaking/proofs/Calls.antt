-- Every call, and so every run of calls from the opening, keeps the site sound. Assumes nothing.
use Rattle.std.proofs.Common.{◌≡◌, ℕ, zero, suc, Bool, false, eqb, List, [], ◌∷◌, is_some, Some, None, Option, sym, refl, ap, ◌∙◌, subst, arith}
use Rattle.std.proofs.lemmas.List.{length-replicate}
use Rattle.std.proofs.lemmas.Bool.{both_ways, or_parts, eqb-false}
use Rattle.gate.proofs.Sums.{zeros}
use Rattle.gate.specs.Column.{fresh, runs, robot, carries, changes}
use Rattle.gate.specs.Gate.{granted, settle, lowest_stranded}
use Rattle.gate.specs.Scene.{Columns, state_at, begin, tick_all, sum_below, one_if}
use Rattle.gate.specs.declared.call.Call.{Call}
use Rattle.gate.specs.declared.call.Call.TheVariants.{Enter, Move, Lay, Lift, Leave, Tick, Recall}
use Rattle.gate.specs.declared.column.Column.{Column}
use Rattle.gate.specs.declared.column.Part.{Part}
use Rattle.gate.specs.declared.column.Part.TheVariants.{Entering, Leaving, Departing, Laying, Lifting}
use Rattle.gate.specs.declared.column.State.{State}
use Rattle.gate.specs.declared.column.State.TheVariants.{Free, Busy}
use Rattle.ground.specs.Meaning.{Meaning, Lawful}
use Rattle.terms.specs.Durations.{SiteSettings}
use Rattle.terms.specs.Refusals.{Told}
use Rattle.undertaking.proofs.Plain.{Proper, opening, after_ticks, relief, tried, tests, answer, step, run, Sound}
use Rattle.ways.specs.Way.Way.{home}
use Rattle.undertaking.proofs.Seen.{at_opening, put_sum}
use Rattle.undertaking.proofs.Kept.{Fits, Kept, gives, takes, share}
use Rattle.undertaking.proofs.Ticks.{kept_tick}
use Rattle.undertaking.proofs.Grants.{Giver, Ready, kept_put, kept_begin, way_begin}
use Rattle.undertaking.proofs.Asked.{all_fail, not_stranded}
use Rattle.undertaking.proofs.Allowed.{move_time, lone_enter, lone_leave, giver_move, giver_lay, giver_lift, robot_within, ready_begun, enters, leaves, moves_ready, lays_ready, lifts_ready}

pub kept_opening : (m : Meaning) (s : SiteSettings) → Proper s → Kept m s (opening m)
kept_opening m s ok =
    record {
      long = length-replicate m.columns fresh;
      fits = λ c. let P : Column → Type 0 = λ x. Fits m s c x.height x.state in subst P (sym (at_opening m c)) (fresh_fits c);
      faces = λ c d p n e o. absurd (not_busy c p n e);
      ways = λ c r. absurd (both_ways (robot (state_at (opening m) c)) (ap (λ (x : Column). robot x.state) (at_opening m c)) r);
      not_full = omega (arith, none_in (λ t. one_if (robot t)) refl);
      pairs = λ q n. none_in (share q n gives) refl ∙ sym (none_in (share q n takes) refl);
    }
  where
    open_free : (c : ℕ) → state_at (opening m) c ≡ Free
    open_free c = ap (λ (x : Column). x.state) (at_opening m c)

    not_busy : (c : ℕ) (p : Part) (n : ℕ) → state_at (opening m) c ≡ Busy p n → ⊥
    not_busy c p n e = let i = open_free c in let z : ◌≡◌ {A = ℕ} 0 1 = cc in omega arith

    fresh_fits : (c : ℕ) → Fits m s c 0 Free
    fresh_fits c =
        record {
          low = ok.levels;
          later_low = ok.levels;
          flat = λ _. refl;
          later_flat = λ _. refl;
          timed = λ p n e. let z : ◌≡◌ {A = ℕ} 0 1 = cc in absurd (omega arith);
          sunk = λ f n e. let z : ◌≡◌ {A = ℕ} 0 1 = cc in absurd (omega arith);
        }

    none_in : (f : State → ℕ) → f Free ≡ 0 → sum_below (λ c. f (state_at (opening m) c)) m.columns ≡ 0
    none_in f e = zeros (λ c. f (state_at (opening m) c)) m.columns (λ c _. ap f (open_free c) ∙ e)

module _ (m : Meaning) (s : SiteSettings) (law : Lawful m) (ok : Proper s) (xs : Columns) (k : Kept m s xs) where
  kept_enter : (c : ℕ) (b : Bool) → answer m s xs (Enter c b) ≡ None → Kept m s (granted s xs (Enter c b))
  kept_enter c b a =
      let e = enters m s law ok xs k c b a in
      kept_put m s xs (granted s xs (Enter c b)) k c (Entering b) s.times.entry e.begun e.in_here (ap runs e.was) ok.entry
      (lone_enter b) 0 (home e.border (ap changes e.was))
      (omega (
        arith,
        put_sum (λ _ x. one_if (robot x.state)) xs (granted s xs (Enter c b)) m.columns c (Busy (Entering b) s.times.entry) e.begun e.in_here,
        ap (λ u. one_if (robot u)) e.was,
        e.room,
      ))

  kept_leave : (c : ℕ) → answer m s xs (Leave c) ≡ None → Kept m s (granted s xs (Leave c))
  kept_leave c a =
      let e = leaves m s law ok xs k c a in
      let part = Leaving (carries (state_at xs c)) in
      let w = k.ways c (ap robot e.was) in
      kept_put m s xs (granted s xs (Leave c)) k c part s.times.leave e.begun e.in_here (ap runs e.was) ok.leave
      (lone_leave (carries (state_at xs c))) w.0 w.1
      (omega (
        arith,
        put_sum (λ _ x. one_if (robot x.state)) xs (granted s xs (Leave c)) m.columns c (Busy part s.times.leave) e.begun e.in_here,
        ap (λ u. one_if (robot u)) e.was,
        k.not_full,
      ))

  kept_move : (c d : ℕ) → answer m s xs (Move c d) ≡ None → Kept m s (granted s xs (Move c d))
  kept_move c d a =
      let p = Departing (carries (state_at xs c)) d in
      let n = move_time s xs c in
      let y = moves_ready m s law ok xs k c d a in
      let b = ready_begun m s law ok xs k c d p n y in
      let q = giver_move (carries (state_at xs c)) c d in
      kept_begin m s xs (granted s xs (Move c d)) k c d p n b y q
      (λ e r. let w = k.ways e r in (w.0, way_begin m s xs (granted s xs (Move c d)) k c d p n b y q (relief xs) (λ _. refl) (λ i h. (h, λ _. refl)) w.1))

  -- a lay and a lift are alike: the trial has shown every robot a way home
  kept_trial : (c d : ℕ) (p : Part) (n : ℕ) → Ready m s xs c d p n → Giver c d p → is_some (lowest_stranded m xs (tried xs d)) ≡ false → Kept m s (begin xs c d p n)
  kept_trial c d p n y q t =
      let b = ready_begun m s law ok xs k c d p n y in
      kept_begin m s xs (begin xs c d p n) k c d p n b y q
      (λ e r. let w = not_stranded m law xs d t e (robot_within m s law ok xs k e r) r in (
        w.0,
        way_begin m s xs (begin xs c d p n) k c d p n b y q (tried xs d) (λ _. refl)
            (λ i h. let o = or_parts (eqb i d) (changes (state_at xs i)) h in (o.1, λ j. absurd (eqb-false i d o.0 j))) w.1,
      ))

  kept_lay : (c d : ℕ) → answer m s xs (Lay c d) ≡ None → Kept m s (granted s xs (Lay c d))
  kept_lay c d a =
      let t = all_fail (tests m s xs (Lay c d)) a in
      kept_trial c d (Laying d) s.times.deliver (lays_ready m s law ok xs k c d a) (giver_lay c d) t.1.1.1.1.1.1.0

  kept_lift : (c d : ℕ) → answer m s xs (Lift c d) ≡ None → Kept m s (granted s xs (Lift c d))
  kept_lift c d a =
      let t = all_fail (tests m s xs (Lift c d)) a in
      kept_trial c d (Lifting d) s.times.pickup (lifts_ready m s law ok xs k c d a) (giver_lift c d) t.1.1.1.1.1.1.0

  kept_granted : (a : Call) → answer m s xs a ≡ None → Kept m s (granted s xs a)
  kept_granted (Enter c b) e = kept_enter c b e
  kept_granted (Move c d) e = kept_move c d e
  kept_granted (Lay c d) e = kept_lay c d e
  kept_granted (Lift c d) e = kept_lift c d e
  kept_granted (Leave c) e = kept_leave c e
  kept_granted Tick e = kept_tick m s xs k
  kept_granted Recall e = k

  pub kept_step : (a : Call) → Kept m s (step m s xs a)
  kept_step a = go (answer m s xs a) refl
    where
      go : (o : Option Told) → answer m s xs a ≡ o → Kept m s (settle o (granted s xs a) xs)
      go None e = kept_granted a e
      go (Some r) e = k

module _ (m : Meaning) (s : SiteSettings) (law : Lawful m) (ok : Proper s) where
  pub kept_run : (xs : Columns) → Kept m s xs → (ks : List Call) → Kept m s (run m s xs ks)
  kept_run xs k [] = k
  kept_run xs k (a ∷ ks) = kept_run (step m s xs a) (kept_step m s law ok xs k a) ks

  pub kept_ticks : (n : ℕ) (xs : Columns) → Kept m s xs → Kept m s (after_ticks n xs)
  kept_ticks zero xs k = k
  kept_ticks (suc n) xs k = kept_ticks n (tick_all xs) (kept_tick m s xs k)

pub sound_kept : (m : Meaning) (s : SiteSettings) (xs : Columns) → Kept m s xs → Sound m s xs
sound_kept m s xs k =
    record {
      long = k.long;
      low = λ c. (k.fits c).low;
      border_flat = λ c. (k.fits c).flat;
      time_left = λ c. (k.fits c).timed;
      partners = λ c d p n e o. (k.faces c d p n e o).state;
      ways_home = k.ways;
      not_full = k.not_full;
    }
