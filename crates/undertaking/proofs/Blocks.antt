-- Blocks brought in are those carried out, standing and carried: each block is counted where it will be when all that runs has ended. Assumes nothing.
use Rattle.std.proofs.Common.{◌≡◌, ℕ, zero, suc, pred, ◌+◌, ◌<◌, ◌≤◌, Bool, List, [], ◌∷◌, Some, None, Option, refl, ap, ◌∙◌, arith}
use Rattle.std.proofs.lemmas.Bool.{not-false}
use Rattle.gate.proofs.Sums.{zeros, sum_same, sum_add}
use Rattle.gate.specs.Column.{facing, stays, taken_out, carries, rest, next, next_height, goes_out}
use Rattle.gate.specs.Gate.{granted, settle}
use Rattle.gate.specs.Scene.{Columns, height_at, state_at, begin, tick_all, sum_below, one_if, blocks_standing, blocks_carried, blocks_leaving}
use Rattle.gate.specs.declared.call.Call.{Call}
use Rattle.gate.specs.declared.call.Call.TheVariants.{Enter, Move, Lay, Lift, Leave, Tick, Recall}
use Rattle.gate.specs.declared.column.Column.{Column}
use Rattle.gate.specs.declared.column.Part.{Part}
use Rattle.gate.specs.declared.column.Part.TheVariants.{Entering, Leaving, Departing, Arriving, Laying, Rising, Lifting, Sinking}
use Rattle.gate.specs.declared.column.State.{State}
use Rattle.gate.specs.declared.column.State.TheVariants.{Free, Standing, Busy}
use Rattle.ground.specs.Meaning.{Meaning, Lawful}
use Rattle.terms.specs.Durations.{SiteSettings}
use Rattle.terms.specs.Refusals.{Told}
use Rattle.undertaking.proofs.Plain.{Proper, opening, tests, answer, step, run, tally, brought_by, out_by}
use Rattle.undertaking.proofs.Seen.{at_opening, put_sum, begin_sum}
use Rattle.undertaking.proofs.Kept.{later, Kept, Kind, gives, takes, share}
use Rattle.undertaking.proofs.Turns.{later_next, worth_all}
use Rattle.undertaking.proofs.Ticks.{state_tick, height_tick}
use Rattle.undertaking.proofs.Grants.{Ready}
use Rattle.undertaking.proofs.Asked.{all_fail}
use Rattle.undertaking.proofs.Allowed.{move_time, ready_begun, enters, leaves, moves_ready, lays_ready, lifts_ready}
use Rattle.undertaking.proofs.Calls.{kept_step}
use Rattle.undertaking.proofs.Due.{comes, comes_next}

abbrev block_of : Option Bool → ℕ
block_of None = 0
block_of (Some b) = one_if b

abbrev outward : State → ℕ
outward Free = 0
outward (Standing b) = 0
outward (Busy p n) = one_if (taken_out p)

-- the blocks of a column when what runs has ended, with one on its way out
abbrev final : State → ℕ → ℕ
final t h = later t h + (block_of (comes t) + outward t)

abbrev finals : Meaning → Columns → ℕ
finals m xs = sum_below (λ c. final (state_at xs c) (height_at xs c)) m.columns

abbrev per_block : Kind → ℕ
per_block (Kind.moves b) = one_if b
per_block Kind.lays = 1
per_block Kind.lifts = 0

abbrev per_lift : Kind → ℕ
per_lift (Kind.moves b) = 0
per_lift Kind.lays = 0
per_lift Kind.lifts = 1

one_lower : (h : ℕ) → 1 ≤ h → pred h + 1 ≡ h
one_lower h l = omega arith

-- a block now here and then there: the shares of the two sides make up for it
balance : (t : State) (h : ℕ) → h < 255 → ((f n : ℕ) → t ≡ Busy (Sinking f) n → 1 ≤ h)
    → (h + one_if (carries t)) + (share per_block 0 takes t + share per_lift 0 gives t) ≡ final t h + (share per_block 0 gives t + share per_lift 0 takes t)
balance Free h l s = omega arith
balance (Standing b) h l s = omega arith
balance (Busy (Entering b) n) h l s = omega arith
balance (Busy (Leaving b) n) h l s = omega arith
balance (Busy (Departing b d) n) h l s =
    omega (arith, worth_all per_block 0 n (Some (Kind.moves b)) (omega arith), worth_all per_lift 0 n (Some (Kind.moves b)) (omega arith))
balance (Busy (Arriving b d) n) h l s =
    omega (arith, worth_all per_block 0 n (Some (Kind.moves b)) (omega arith), worth_all per_lift 0 n (Some (Kind.moves b)) (omega arith))
balance (Busy (Laying d) n) h l s = omega (arith, worth_all per_block 0 n (Some Kind.lays) (omega arith), worth_all per_lift 0 n (Some Kind.lays) (omega arith))
balance (Busy (Rising d) n) h l s = omega (arith, worth_all per_block 0 n (Some Kind.lays) (omega arith), worth_all per_lift 0 n (Some Kind.lays) (omega arith))
balance (Busy (Lifting d) n) h l s = omega (arith, worth_all per_block 0 n (Some Kind.lifts) (omega arith), worth_all per_lift 0 n (Some Kind.lifts) (omega arith))
balance (Busy (Sinking d) n) h l s =
    let lower : later (Busy (Sinking d) n) h + 1 ≡ h = one_lower h (s d n refl) in
    omega (arith, s d n refl, worth_all per_block 0 n (Some Kind.lifts) (omega arith), worth_all per_lift 0 n (Some Kind.lifts) (omega arith))

-- so the blocks standing and carried are those of the end
now_final : (m : Meaning) (s : SiteSettings) → Proper s → (xs : Columns) → Kept m s xs → blocks_standing m xs + blocks_carried m xs ≡ finals m xs
now_final m s ok xs k =
    let n = m.columns in
    let h : ℕ → ℕ = λ c. height_at xs c in
    let b : ℕ → ℕ = λ c. one_if (carries (state_at xs c)) in
    let u : ℕ → ℕ = λ c. share per_block 0 takes (state_at xs c) in
    let v : ℕ → ℕ = λ c. share per_lift 0 gives (state_at xs c) in
    let f : ℕ → ℕ = λ c. final (state_at xs c) (height_at xs c) in
    let u' : ℕ → ℕ = λ c. share per_block 0 gives (state_at xs c) in
    let v' : ℕ → ℕ = λ c. share per_lift 0 takes (state_at xs c) in
    omega (
      arith,
      k.pairs per_block 0,
      k.pairs per_lift 0,
      sum_add h b n,
      sum_add u v n,
      sum_add (λ c. h c + b c) (λ c. u c + v c) n,
      sum_add u' v' n,
      sum_add f (λ c. u' c + v' c) n,
      sum_same (λ c. (h c + b c) + (u c + v c)) (λ c. f c + (u' c + v' c)) n (λ c _. balance (state_at xs c) (height_at xs c) (omega (arith, (k.fits c).low, ok.few_levels)) (k.fits c).sunk),
    )

outward_rest : (o : Option Bool) → outward (rest o) ≡ 0
outward_rest None = refl
outward_rest (Some b) = refl

outward_next : (t : State) → outward (next t) + one_if (goes_out t) ≡ outward t
outward_next Free = refl
outward_next (Standing b) = refl
outward_next (Busy p zero) = omega (arith, outward_rest (stays p))
outward_next (Busy p (suc zero)) = omega (arith, outward_rest (stays p))
outward_next (Busy p (suc (suc n))) = omega arith

final_next : (t : State) (h : ℕ) → final (next t) (next_height t h) + one_if (goes_out t) ≡ final t h
final_next t h = omega (arith, later_next t h, ap block_of (comes_next t), outward_next t)

finals_tick : (m : Meaning) (xs : Columns) → finals m (tick_all xs) + blocks_leaving m xs ≡ finals m xs
finals_tick m xs =
    let f : ℕ → ℕ = λ c. final (state_at (tick_all xs) c) (height_at (tick_all xs) c) in
    let g : ℕ → ℕ = λ c. one_if (goes_out (state_at xs c)) in
    omega (arith, sum_add f g m.columns, sum_same (λ c. f c + g c) (λ c. final (state_at xs c) (height_at xs c)) m.columns (λ c _. one c))
  where
    one : (c : ℕ) → final (state_at (tick_all xs) c) (height_at (tick_all xs) c) + one_if (goes_out (state_at xs c)) ≡ final (state_at xs c) (height_at xs c)
    one c =
        ap (λ t. final t (height_at (tick_all xs) c) + one_if (goes_out (state_at xs c))) (state_tick m xs c)
        ∙ ap (λ h. final (next (state_at xs c)) h + one_if (goes_out (state_at xs c))) (height_tick m xs c)
        ∙ final_next (state_at xs c) (height_at xs c)

module _ (m : Meaning) (s : SiteSettings) (law : Lawful m) (ok : Proper s) (xs : Columns) (k : Kept m s xs) where
  of_column : ℕ → Column → ℕ
  of_column _ x = final x.state x.height

  -- an action with two columns begins: the sum before and after, by the final blocks of the two
  begun : (c d : ℕ) (p : Part) (n : ℕ) (y : Ready m s xs c d p n)
      → finals m (begin xs c d p n) + (final (Standing (carries (state_at xs c))) (height_at xs c) + final Free (height_at xs d))
      ≡ finals m xs + (final (Busy p n) (height_at xs c) + final (Busy (facing c p) n) (height_at xs d))
  unfolding of_column
  begun c d p n y =
      omega (
        arith,
        begin_sum of_column xs (begin xs c d p n) m.columns c d p n (ready_begun m s law ok xs k c d p n y) y.in_here y.in_there y.apart,
        ap (λ t. final t (height_at xs c)) y.stood,
        ap (λ t. final t (height_at xs d)) y.was_free,
      )

  balanced : (a : Call) → answer m s xs a ≡ None → brought_by xs a + finals m xs ≡ out_by m xs a + finals m (granted s xs a)
  unfolding of_column
  balanced (Enter c b) e =
      let g = enters m s law ok xs k c b e in
      omega (
        arith,
        put_sum of_column xs (granted s xs (Enter c b)) m.columns c (Busy (Entering b) s.times.entry) g.begun g.in_here,
        ap (λ t. final t (height_at xs c)) g.was,
      )
  balanced (Move c d) e =
      let b = begun c d (Departing (carries (state_at xs c)) d) (move_time s xs c) (moves_ready m s law ok xs k c d e) in
      omega arith
  balanced (Lay c d) e =
      let t = all_fail (tests m s xs (Lay c d)) e in
      let b = begun c d (Laying d) s.times.deliver (lays_ready m s law ok xs k c d e) in
      omega (arith, ap one_if (not-false (carries (state_at xs c)) t.1.1.0), (k.fits d).low, ok.few_levels)
  balanced (Lift c d) e =
      let t = all_fail (tests m s xs (Lift c d)) e in
      let y = lifts_ready m s law ok xs k c d e in
      let b = begun c d (Lifting d) s.times.pickup y in
      let lower : later (Busy (Sinking c) s.times.pickup) (height_at xs d) + 1 ≡ height_at xs d = one_lower (height_at xs d) (y.sunk c refl) in
      let bare : one_if (carries (state_at xs c)) ≡ 0 = ap one_if t.1.1.0 in
      omega arith
  balanced (Leave c) e =
      let g = leaves m s law ok xs k c e in
      omega (
        arith,
        put_sum of_column xs (granted s xs (Leave c)) m.columns c (Busy (Leaving (carries (state_at xs c))) s.times.leave) g.begun g.in_here,
        ap (λ t. final t (height_at xs c)) g.was,
      )
  balanced Tick e = omega (arith, finals_tick m xs)
  balanced Recall e = omega arith

  pub balanced_step : (a : Call)
      → settle (answer m s xs a) (brought_by xs a) 0 + finals m xs ≡ settle (answer m s xs a) (out_by m xs a) 0 + finals m (step m s xs a)
  balanced_step a = go (answer m s xs a) refl
    where
      go : (o : Option Told) → answer m s xs a ≡ o → settle o (brought_by xs a) 0 + finals m xs ≡ settle o (out_by m xs a) 0 + finals m (settle o (granted s xs a) xs)
      go None e = balanced a e
      go (Some r) e = refl

module _ (m : Meaning) (s : SiteSettings) (law : Lawful m) (ok : Proper s) where
  balanced_run : (ks : List Call) (xs : Columns) → Kept m s xs
      → (tally brought_by m s xs ks + finals m xs ≡ tally (out_by m) m s xs ks + finals m (run m s xs ks)) × Kept m s (run m s xs ks)
  balanced_run [] xs k = (refl, k)
  balanced_run (a ∷ ks) xs k =
      let ih = balanced_run ks (step m s xs a) (kept_step m s law ok xs k a) in
      (omega (arith, ih.0, balanced_step m s law ok xs k a), ih.1)

  pub blocks : Kept m s (opening m) → (ks : List Call)
      → tally brought_by m s (opening m) ks
      ≡ tally (out_by m) m s (opening m) ks + (blocks_standing m (run m s (opening m) ks) + blocks_carried m (run m s (opening m) ks))
  blocks k ks =
      let r = balanced_run ks (opening m) k in
      let start : finals m (opening m) ≡ 0 =
      zeros (λ c. final (state_at (opening m) c) (height_at (opening m) c)) m.columns (λ c _. ap (λ (x : Column). final x.state x.height) (at_opening m c)) in
      omega (arith, r.0, now_final m s ok (run m s (opening m) ks) r.1)
