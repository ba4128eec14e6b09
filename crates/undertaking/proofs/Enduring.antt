-- The law of durations: what runs goes on whatever is called, until its last tick. Assumes nothing.
use Rattle.std.proofs.Common.{◌≡◌, ℕ, zero, suc, ◌-◌, ◌<◌, List, [], ◌∷◌, ◌++◌, Some, None, Option, refl, ap, ◌∙◌, arith}
use Rattle.terms.specs.Durations.{SiteSettings}
use Rattle.terms.specs.Refusals.{Told}
use Rattle.ground.specs.Meaning.{Meaning, Lawful}
use Rattle.gate.specs.declared.call.Call.{Call}
use Rattle.gate.specs.declared.call.Call.TheVariants.{Enter, Move, Lay, Lift, Leave, Tick, Recall}
use Rattle.gate.specs.declared.column.Part.{Part}
use Rattle.gate.specs.declared.column.Part.TheVariants.{Entering, Leaving, Departing, Laying, Lifting}
use Rattle.gate.specs.declared.column.State.TheVariants.{Busy}
use Rattle.gate.specs.Column.{carries, runs, rest, stays, built, next, next_height}
use Rattle.gate.specs.Scene.{Columns, height_at, state_at, begin, tick_all}
use Rattle.gate.specs.Gate.{granted, settle}
use Rattle.undertaking.specs.Runs.{ticks}
use Rattle.undertaking.specs.Lasting.{Is}
use Rattle.undertaking.proofs.Plain.{Proper, answer, step, run}
use Rattle.undertaking.proofs.Kept.{Kept}
use Rattle.undertaking.proofs.Turns.{next_busy}
use Rattle.undertaking.proofs.Ticks.{state_tick, height_tick, kept_tick}
use Rattle.undertaking.proofs.Grants.{Ready, Giver, heights_put, still_put, heights_begin, still_begin}
use Rattle.undertaking.proofs.Allowed.{move_time, lone_enter, lone_leave, giver_move, giver_lay, giver_lift, ready_begun, enters, leaves, moves_ready, lays_ready, lifts_ready}
use Rattle.undertaking.proofs.Calls.{kept_step}

-- heights and what runs are as before
pub record Calmly (xs ys : Columns) : Type 0 where
  pub heights : (e : ℕ) → height_at ys e ≡ height_at xs e
  pub busy : (e : ℕ) (p : Part) (n : ℕ) → state_at xs e ≡ Busy p n → state_at ys e ≡ Busy p n

calmly : (xs : Columns) → Calmly xs xs
calmly xs = record { heights = λ e. refl; busy = λ e p n i. i }

-- every call but a tick
abbrev pub NoTick : Call → Type 0
NoTick (Enter c block) = Unit {0}
NoTick (Move c d) = Unit {0}
NoTick (Lay c d) = Unit {0}
NoTick (Lift c d) = Unit {0}
NoTick (Leave c) = Unit {0}
NoTick Tick = ⊥
NoTick Recall = Unit {0}

module _ (m : Meaning) (s : SiteSettings) (law : Lawful m) (ok : Proper s) (xs : Columns) (k : Kept m s xs) where
  two_calm : (c d : ℕ) (p : Part) (n : ℕ) → Ready m s xs c d p n → Giver c d p → Calmly xs (begin xs c d p n)
  two_calm c d p n y q =
      let b = ready_begun m s law ok xs k c d p n y in
      record { heights = heights_begin m s xs (begin xs c d p n) k c d p n b y q; busy = still_begin m s xs (begin xs c d p n) k c d p n b y q }

  grant_calm : (a : Call) → NoTick a → answer m s xs a ≡ None → Calmly xs (granted s xs a)
  grant_calm (Enter c b) t e =
      let g = enters m s law ok xs k c b e in
      let ys = granted s xs (Enter c b) in
      record {
        heights = heights_put m s xs ys k c (Entering b) s.times.entry g.begun g.in_here (ap runs g.was) ok.entry (lone_enter b);
        busy = still_put m s xs ys k c (Entering b) s.times.entry g.begun g.in_here (ap runs g.was) ok.entry (lone_enter b);
      }
  grant_calm (Move c d) t e = two_calm c d (Departing (carries (state_at xs c)) d) (move_time s xs c) (moves_ready m s law ok xs k c d e) (giver_move (carries (state_at xs c)) c d)
  grant_calm (Lay c d) t e = two_calm c d (Laying d) s.times.deliver (lays_ready m s law ok xs k c d e) (giver_lay c d)
  grant_calm (Lift c d) t e = two_calm c d (Lifting d) s.times.pickup (lifts_ready m s law ok xs k c d e) (giver_lift c d)
  grant_calm (Leave c) t e =
      let g = leaves m s law ok xs k c e in
      let ys = granted s xs (Leave c) in
      let p = Leaving (carries (state_at xs c)) in
      record {
        heights = heights_put m s xs ys k c p s.times.leave g.begun g.in_here (ap runs g.was) ok.leave (lone_leave (carries (state_at xs c)));
        busy = still_put m s xs ys k c p s.times.leave g.begun g.in_here (ap runs g.was) ok.leave (lone_leave (carries (state_at xs c)));
      }
  grant_calm Tick t e = absurd t
  grant_calm Recall t e = calmly xs

  pub step_calm : (a : Call) → NoTick a → Calmly xs (step m s xs a)
  step_calm a t = go (answer m s xs a) refl
    where
      go : (o : Option Told) → answer m s xs a ≡ o → Calmly xs (settle o (granted s xs a) xs)
      go None e = grant_calm a t e
      go (Some r) e = calmly xs

module _ (m : Meaning) (s : SiteSettings) (law : Lawful m) (ok : Proper s) where
  -- a part with n ticks left goes on while fewer ticks pass
  abbrev Endures : List Call → Type 0
  Endures ks = (xs : Columns) → Kept m s xs → (e : ℕ) (p : Part) (n : ℕ) → state_at xs e ≡ Busy p n → ticks ks < n
      → Is (run m s xs ks) e (height_at xs e) (Busy p (n - ticks ks))

  on : (a : Call) → NoTick a → (ks : List Call) → Endures ks → (xs : Columns) → Kept m s xs → (e : ℕ) (p : Part) (n : ℕ) → state_at xs e ≡ Busy p n → ticks ks < n
      → Is (run m s (step m s xs a) ks) e (height_at xs e) (Busy p (n - ticks ks))
  on a t ks ih xs k e p n i l =
      let c = step_calm m s law ok xs k a t in
      let r = ih (step m s xs a) (kept_step m s law ok xs k a) e p n (c.busy e p n i) l in
      record { state = r.state; height = r.height ∙ c.heights e }

  ticked_on : (ks : List Call) → Endures ks → (xs : Columns) → Kept m s xs → (e : ℕ) (p : Part) (n : ℕ) → state_at xs e ≡ Busy p n → suc (ticks ks) < n
      → Is (run m s (tick_all xs) ks) e (height_at xs e) (Busy p (n - suc (ticks ks)))
  ticked_on ks ih xs k e p zero i l = absurd (omega arith)
  ticked_on ks ih xs k e p (suc n) i l =
      let on = next_busy p n (height_at xs e) (omega arith) in
      let r = ih (tick_all xs) (kept_tick m s xs k) e p n (state_tick m xs e ∙ ap next i ∙ on.0) (omega arith) in
      let left : n - ticks ks ≡ suc n - suc (ticks ks) = omega arith in
      record {
        state = r.state ∙ ap (Busy p) left;
        height = r.height ∙ height_tick m xs e ∙ ap (λ t. next_height t (height_at xs e)) i ∙ on.1;
      }

  pub endures : (ks : List Call) → Endures ks
  endures [] = λ xs k e p n i l. let left : n ≡ n - 0 = omega arith in record { state = i ∙ ap (Busy p) left; height = refl }
  endures (Enter c b ∷ ks) = on (Enter c b) tt ks (endures ks)
  endures (Move c d ∷ ks) = on (Move c d) tt ks (endures ks)
  endures (Lay c d ∷ ks) = on (Lay c d) tt ks (endures ks)
  endures (Lift c d ∷ ks) = on (Lift c d) tt ks (endures ks)
  endures (Leave c ∷ ks) = on (Leave c) tt ks (endures ks)
  endures (Tick ∷ ks) = ticked_on ks (endures ks)
  endures (Recall ∷ ks) = on Recall tt ks (endures ks)

  pub run_push : (ks : List Call) (xs : Columns) (a : Call) → run m s xs (ks ++ a ∷ []) ≡ step m s (run m s xs ks) a
  run_push [] xs a = refl
  run_push (b ∷ ks) xs a = run_push ks (step m s xs b) a

  -- and at the last tick it ends
  pub finishes : (ks : List Call) (xs : Columns) → Kept m s xs → (e : ℕ) (p : Part) (n : ℕ) → state_at xs e ≡ Busy p n → suc (ticks ks) ≡ n
      → Is (run m s xs (ks ++ Tick ∷ [])) e (built p (height_at xs e)) (rest (stays p))
  finishes ks xs k e p n i l =
      let r = endures ks xs k e p n i (omega arith) in
      let ys = run m s xs ks in
      let one : n - ticks ks ≡ 1 = omega arith in
      let was : state_at ys e ≡ Busy p 1 = r.state ∙ ap (Busy p) one in
      let all = run_push ks xs Tick in
      record {
        state = ap (λ zs. state_at zs e) all ∙ state_tick m ys e ∙ ap next was;
        height = ap (λ zs. height_at zs e) all ∙ height_tick m ys e ∙ ap (λ t. next_height t (height_at ys e)) was ∙ ap (built p) r.height;
      }
