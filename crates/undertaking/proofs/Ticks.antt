-- A tick keeps what every call keeps. Assumes nothing.
use Rattle.std.proofs.Common.{◌≡◌, ℕ, zero, suc, ◌+◌, ◌≤◌, true, false, Some, sym, refl, ap, ◌∙◌, subst, inl, inr, arith}
use Rattle.std.proofs.lemmas.List.{length-map}
use Rattle.gate.proofs.Sums.{sum_same, sum_le, sum_add}
use Rattle.gate.specs.Column.{other, facing, robot, changes, next, next_height, ticked}
use Rattle.gate.specs.Scene.{Columns, height_at, state_at, tick_all, sum_below, one_if, robots}
use Rattle.gate.specs.declared.column.Column.{Column}
use Rattle.gate.specs.declared.column.Part.{Part}
use Rattle.gate.specs.declared.column.Part.TheVariants.{Arriving}
use Rattle.gate.specs.declared.column.State.{State}
use Rattle.gate.specs.declared.column.State.TheVariants.{Busy}
use Rattle.ground.specs.Meaning.{Meaning}
use Rattle.terms.specs.Durations.{SiteSettings}
use Rattle.undertaking.proofs.Plain.{relief}
use Rattle.ways.specs.Way.{Relief, Way}
use Rattle.ways.specs.Way.Way.{home, onward}
use Rattle.gate.proofs.Recalling.{way_settled}
use Rattle.gate.proofs.Ticked.{at_tick}
use Rattle.undertaking.proofs.Kept.{Fits, Facing, Kept, Kind, gives, takes, share, shares}
use Rattle.undertaking.proofs.Turns.{went_on, next_busy, fits_next, settled_next, Came, came, share_next, share_next_all, lasting, per_move, moving, lasting_next}

-- what is settled stays settled, at its height: ways stay
pub way_stays : (m : Meaning) (r t : Relief) → ((e : ℕ) → r.changing e ≡ false → (t.changing e ≡ false) × (t.heights e ≡ r.heights e))
    → {c n : ℕ} → Way m r c n → Way m t c n
way_stays m r t same (home {c} b h) = home b (same c h).0
way_stays m r t same (onward {c} {d} l g h w) =
    let hc = (same c h).1 in
    let hd = (same d (way_settled w)).1 in
    onward l (record { up = omega (arith, g.up); down = omega (arith, g.down) }) (same c h).0 (way_stays m r t same w)

module _ (m : Meaning) (xs : Columns) where
  pub state_tick : (c : ℕ) → state_at (tick_all xs) c ≡ next (state_at xs c)
  state_tick c = ap (λ (x : Column). x.state) (at_tick xs c)

  pub height_tick : (c : ℕ) → height_at (tick_all xs) c ≡ next_height (state_at xs c) (height_at xs c)
  height_tick c = ap (λ (x : Column). x.height) (at_tick xs c)

  pub relief_tick : (e : ℕ) → changes (state_at xs e) ≡ false → (changes (state_at (tick_all xs) e) ≡ false) × (height_at (tick_all xs) e ≡ height_at xs e)
  relief_tick e h =
      let n = settled_next (state_at xs e) (height_at xs e) h in
      (ap changes (state_tick e) ∙ n.0, height_tick e ∙ n.1)

  -- a sum over the columns after a tick
  pub sum_tick : (f g : State → ℕ) → ((t : State) → f (next t) ≡ g t)
      → sum_below (λ c. f (state_at (tick_all xs) c)) m.columns ≡ sum_below (λ c. g (state_at xs c)) m.columns
  sum_tick f g h = sum_same (λ c. f (state_at (tick_all xs) c)) (λ c. g (state_at xs c)) m.columns (λ c _. ap f (state_tick c) ∙ h (state_at xs c))

  all_lasting : Columns → ℕ
  all_lasting ys = sum_below (λ c. lasting (state_at ys c)) m.columns

  -- as many robots as are counted where they move to
  robots_last : (ys : Columns) → shares m per_move 0 gives ys ≡ shares m per_move 0 takes ys → robots m ys ≡ all_lasting ys
  unfolding all_lasting
  robots_last ys e =
      let f : ℕ → ℕ = λ c. one_if (robot (state_at ys c)) in
      let g : ℕ → ℕ = λ c. share per_move 0 takes (state_at ys c) in
      let f' : ℕ → ℕ = λ c. lasting (state_at ys c) in
      let g' : ℕ → ℕ = λ c. share per_move 0 gives (state_at ys c) in
      omega (
        arith,
        sum_add f g m.columns,
        sum_add f' g' m.columns,
        sum_same (λ c. f c + g c) (λ c. f' c + g' c) m.columns (λ c _. moving (state_at ys c)),
      )

module _ (m : Meaning) (s : SiteSettings) (xs : Columns) (k : Kept m s xs) where
  faces_tick : (c d : ℕ) (p : Part) (n : ℕ) → state_at (tick_all xs) c ≡ Busy p n → other p ≡ Some d → Facing m (tick_all xs) c d p n
  faces_tick c d p n e o =
      let w = went_on (state_at xs c) p n (sym (state_tick m xs c) ∙ e) in
      let f = k.faces c d p (suc n) w.was o in
      let on = next_busy (facing c p) n (height_at xs d) w.time in
      let hc : height_at (tick_all xs) c ≡ height_at xs c = height_tick m xs c ∙ w.level (height_at xs c) in
      let hd : height_at (tick_all xs) d ≡ height_at xs d = height_tick m xs d ∙ ap (λ t. next_height t (height_at xs d)) f.state ∙ on.1 in
      record {
        state = state_tick m xs d ∙ ap next f.state ∙ on.0;
        link = f.link;
        near = record { up = omega (arith, f.near.up); down = omega (arith, f.near.down) };
      }

  way_before : (c : ℕ) → Came (state_at xs c) → (n : ℕ) × Way m (relief xs) c n
  way_before c (inl r) = k.ways c r
  way_before c (inr (b, d, n, e)) =
      let f = k.faces c d (Arriving b d) n e refl in
      let w = k.ways d (ap robot f.state) in
      (suc w.0, onward f.link f.near (ap changes e) w.1)

  ways_tick : (c : ℕ) → robot (state_at (tick_all xs) c) ≡ true → (n : ℕ) × Way m (relief (tick_all xs)) c n
  ways_tick c r =
      let w = way_before c (came (state_at xs c) (sym (ap robot (state_tick m xs c)) ∙ r)) in
      (w.0, way_stays m (relief xs) (relief (tick_all xs)) (relief_tick m xs) w.1)

  pairs_tick : (q : Kind → ℕ) (n : ℕ) → shares m q n gives (tick_all xs) ≡ shares m q n takes (tick_all xs)
  pairs_tick q zero =
      sum_tick m xs (share q 0 gives) (share q 2 gives) (share_next_all q gives) ∙ k.pairs q 2 ∙ sym (sum_tick m xs (share q 0 takes) (share q 2 takes) (share_next_all q takes))
  pairs_tick q (suc n) =
      sum_tick m xs (share q (suc n) gives) (share q (suc (suc n)) gives) (share_next q n gives) ∙ k.pairs q (suc (suc n))
      ∙ sym (sum_tick m xs (share q (suc n) takes) (share q (suc (suc n)) takes) (share_next q n takes))

  fewer : robots m (tick_all xs) ≤ robots m xs
  unfolding all_lasting
  fewer =
      omega (
        arith,
        robots_last m xs xs (k.pairs per_move 0),
        robots_last m xs (tick_all xs) (pairs_tick per_move 0),
        sum_le (λ c. lasting (state_at (tick_all xs) c)) (λ c. lasting (state_at xs c)) m.columns
            (λ c _. omega (arith, ap lasting (state_tick m xs c), lasting_next (state_at xs c))),
      )

  pub kept_tick : Kept m s (tick_all xs)
  kept_tick =
      record {
        long = length-map xs ticked ∙ k.long;
        fits = λ c. let P : Column → Type 0 = λ x. Fits m s c x.height x.state in
            subst P (sym (at_tick xs c)) (fits_next m s c (height_at xs c) (state_at xs c) (k.fits c));
        faces = faces_tick;
        ways = ways_tick;
        not_full = omega (arith, fewer, k.not_full);
        pairs = pairs_tick;
      }
