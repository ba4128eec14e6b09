-- A granted call keeps what every call keeps: idle columns begin parts that face each other, and the rest is as before. Assumes nothing.
use Rattle.std.proofs.Common.{◌≡◌, ℕ, ◌<◌, ◌≤◌, true, false, leb, ◌≢◌, Some, None, Option, sym, refl, ap, ◌∙◌, subst, arith}
use Rattle.std.proofs.lemmas.Bool.{false≢true, true≢false, both_ways}
use Rattle.gate.specs.Column.{other, facing, robot_in, changes_in, built, runs, robot, carries, changes}
use Rattle.gate.specs.Scene.{Columns, height_at, state_at, one_if, robots}
use Rattle.gate.specs.declared.column.Column.{Column}
use Rattle.gate.specs.declared.column.Part.{Part}
use Rattle.gate.specs.declared.column.Part.TheVariants.{Sinking}
use Rattle.gate.specs.declared.column.State.{State}
use Rattle.gate.specs.declared.column.State.TheVariants.{Free, Standing, Busy}
use Rattle.ground.specs.Meaning.{Meaning}
use Rattle.terms.specs.Durations.{SiteSettings}
use Rattle.undertaking.proofs.Plain.{relief}
use Rattle.ways.specs.Way.{Relief, Near, Way}
use Rattle.undertaking.proofs.Seen.{Put, Begun, put_all, begun_all, put_sum, begin_sum}
use Rattle.undertaking.proofs.Kept.{Fits, Facing, Kept, Kind, gives, takes, worth, share}
use Rattle.undertaking.proofs.Ticks.{way_stays}

pub idle_settled : (t : State) → runs t ≡ false → changes t ≡ false
idle_settled Free e = refl
idle_settled (Standing b) e = refl
idle_settled (Busy p n) e = absurd (true≢false e)

idle_share : (t : State) (q : Kind → ℕ) (n : ℕ) (side : Part → Option Kind) → runs t ≡ false → share q n side t ≡ 0
idle_share Free q n side e = refl
idle_share (Standing b) q n side e = refl
idle_share (Busy p k) q n side e = absurd (true≢false e)

-- two columns that face each other still do, where busy columns and heights are as before
faces_else : (m : Meaning) (s : SiteSettings) (xs ys : Columns) → Kept m s xs → ((e : ℕ) → height_at ys e ≡ height_at xs e)
    → ((e : ℕ) (p : Part) (n : ℕ) → state_at xs e ≡ Busy p n → state_at ys e ≡ Busy p n)
    → (c d : ℕ) (p : Part) (n : ℕ) → state_at xs c ≡ Busy p n → other p ≡ Some d → Facing m ys c d p n
faces_else m s xs ys k hs still c d p n e o =
    let f = k.faces c d p n e o in
    record {
      state = still d (facing c p) n f.state;
      link = f.link;
      near = record { up = omega (arith, f.near.up, hs c, hs d); down = omega (arith, f.near.down, hs c, hs d) };
    }

-- a part with no other column, for the robot at its column
pub record Lone (p : Part) : Type 0 where
  pub alone : other p ≡ None
  pub level : (h : ℕ) → built p h ≡ h
  pub settled : changes_in p ≡ false
  pub not_gives : gives p ≡ None
  pub not_takes : takes p ≡ None

busy_fits : (m : Meaning) (s : SiteSettings) (c h n : ℕ) (t : State) (p : Part) → 1 ≤ n → Fits m s c h t → built p h < s.levels
    → (m.border c ≡ true → built p h ≡ 0) → ((f : ℕ) → p ≡ Sinking f → 1 ≤ h) → Fits m s c h (Busy p n)
busy_fits m s c h n t p l f low flat sunk =
    record {
      low = f.low;
      later_low = low;
      flat = f.flat;
      later_flat = flat;
      timed = λ q k e. let i : n ≡ k = cc in omega arith;
      sunk = λ g k e. sunk g (cc);
    }

not_sinking : (p : Part) (h : ℕ) → changes_in p ≡ false → (f : ℕ) → p ≡ Sinking f → 1 ≤ h
not_sinking p h e f i = absurd (both_ways (changes_in p) e (ap changes_in i))

module _ (m : Meaning) (s : SiteSettings) (xs ys : Columns) (k : Kept m s xs) (c : ℕ) (p : Part) (n : ℕ) (b : Put xs ys c (Busy p n)) (in' : c < m.columns)
    (idle : runs (state_at xs c) ≡ false) (time : 1 ≤ n) (q : Lone p) where
  pub heights_put : (e : ℕ) → height_at ys e ≡ height_at xs e
  heights_put = put_all b (λ e x. x.height ≡ height_at xs e) refl (λ _ _. refl)

  pub still_put : (e : ℕ) (r : Part) (j : ℕ) → state_at xs e ≡ Busy r j → state_at ys e ≡ Busy r j
  still_put e r j =
      put_all b (λ e x. state_at xs e ≡ Busy r j → x.state ≡ Busy r j) (λ i. absurd (both_ways (runs (state_at xs c)) idle (ap runs i))) (λ _ _ i. i) e

  way_put : {e j : ℕ} → Way m (relief xs) e j → Way m (relief ys) e j
  way_put w =
      way_stays m (relief xs) (relief ys)
      (λ e h. (put_all b (λ e x. changes (state_at xs e) ≡ false → changes x.state ≡ false) (λ _. q.settled) (λ _ _ i. i) e h, heights_put e)) w

  pub kept_put : (j : ℕ) → Way m (relief xs) c j → robots m ys ≤ s.robots → Kept m s ys
  kept_put j w full =
      record {
        long = b.long ∙ k.long;
        fits = put_all b (λ e x. Fits m s e x.height x.state)
            (busy_fits m s c (height_at xs c) n (state_at xs c) p time (k.fits c) (omega (arith, q.level (height_at xs c), (k.fits c).low))
            (λ r. q.level (height_at xs c) ∙ (k.fits c).flat r) (not_sinking p (height_at xs c) q.settled))
            (λ e _. k.fits e);
        faces = put_all b (λ e x. (d : ℕ) (r : Part) (i : ℕ) → x.state ≡ Busy r i → other r ≡ Some d → Facing m ys e d r i)
            (λ d r i e o. let z : ◌≡◌ {A = ℕ} 0 1 = cc q.alone in absurd (omega arith))
            (λ e _. faces_else m s xs ys k heights_put still_put e);
        ways = put_all b (λ e x. robot x.state ≡ true → (i : ℕ) × Way m (relief ys) e i)
            (λ _. (j, way_put w)) (λ e _ r. let v = k.ways e r in (v.0, way_put v.1));
        not_full = full;
        pairs = λ v i. omega (
          arith,
          k.pairs v i,
          put_sum (λ _ x. share v i gives x.state) xs ys m.columns c (Busy p n) b in',
          idle_share (state_at xs c) v i gives idle,
          ap (worth v (leb i n)) q.not_gives,
          put_sum (λ _ x. share v i takes x.state) xs ys m.columns c (Busy p n) b in',
          idle_share (state_at xs c) v i takes idle,
          ap (worth v (leb i n)) q.not_takes,
        );
      }

-- the part of the robot's column in an action with two columns
pub record Giver (c d : ℕ) (p : Part) : Type 0 where
  pub to : other p ≡ Some d
  pub back : other (facing c p) ≡ Some c
  pub again : facing d (facing c p) ≡ p
  pub robot_there : robot_in (facing c p) ≡ false
  pub robot_here : robot_in p ≡ true
  pub level : (h : ℕ) → built p h ≡ h
  pub settled : changes_in p ≡ false
  pub not_gives : gives (facing c p) ≡ None
  pub not_takes : takes p ≡ None
  pub same : takes (facing c p) ≡ gives p

facing_only : (m : Meaning) (ys : Columns) (c d d' : ℕ) (p q : Part) (n j : ℕ) → Facing m ys c d p n → other p ≡ Some d → Busy p n ≡ Busy q j → other q ≡ Some d' → Facing m ys c d' q j
facing_only m ys c d d' p q n j f o e o' =
    let ip : p ≡ q = cc in
    let ij : n ≡ j = cc in
    let id : d ≡ d' = cc in
    let P : ℕ → Type 0 = λ x. Facing m ys c x p n in
    let Q : Part → Type 0 = λ x. Facing m ys c d' x n in
    let R : ℕ → Type 0 = λ x. Facing m ys c d' q x in
    subst R ij (subst Q ip (subst P id f))

-- what the gate has found where it grants an action with two columns
pub record Ready (m : Meaning) (s : SiteSettings) (xs : Columns) (c d : ℕ) (p : Part) (n : ℕ) : Type 0 where
  pub in_here : c < m.columns
  pub in_there : d < m.columns
  pub apart : c ≢ d
  pub stood : state_at xs c ≡ Standing (carries (state_at xs c))
  pub was_free : state_at xs d ≡ Free
  pub link : m.linked c d ≡ true
  pub link_back : m.linked d c ≡ true
  pub near : Near (height_at xs c) (height_at xs d)
  pub time : 1 ≤ n
  pub later_low : built (facing c p) (height_at xs d) < s.levels
  pub later_flat : m.border d ≡ true → built (facing c p) (height_at xs d) ≡ 0
  pub sunk : (f : ℕ) → facing c p ≡ Sinking f → 1 ≤ height_at xs d

module _ (m : Meaning) (s : SiteSettings) (xs ys : Columns) (k : Kept m s xs) (c d : ℕ) (p : Part) (n : ℕ) (b : Begun xs ys c d p n)
    (y : Ready m s xs c d p n) (q : Giver c d p) where
  pub heights_begin : (e : ℕ) → height_at ys e ≡ height_at xs e
  heights_begin = begun_all b (λ e x. x.height ≡ height_at xs e) refl refl (λ _ _ _. refl)

  pub still_begin : (e : ℕ) (r : Part) (j : ℕ) → state_at xs e ≡ Busy r j → state_at ys e ≡ Busy r j
  still_begin e r j =
      begun_all b (λ e x. state_at xs e ≡ Busy r j → x.state ≡ Busy r j)
      (λ i. absurd (false≢true (sym (ap runs y.stood) ∙ ap runs i))) (λ i. absurd (false≢true (sym (ap runs y.was_free) ∙ ap runs i))) (λ _ _ _ i. i) e

  near_begin : Near (height_at ys c) (height_at ys d)
  near_begin = record { up = omega (arith, y.near.up, heights_begin c, heights_begin d); down = omega (arith, y.near.down, heights_begin c, heights_begin d) }

  -- ways over a relief with the heights of xs, in which d is settled only if it stays so
  pub way_begin : (t : Relief) → ((e : ℕ) → t.heights e ≡ height_at xs e)
      → ((e : ℕ) → t.changing e ≡ false → (changes (state_at xs e) ≡ false) × (e ≡ d → changes_in (facing c p) ≡ false))
      → {e j : ℕ} → Way m t e j → Way m (relief ys) e j
  way_begin t hs cs w =
      way_stays m t (relief ys)
      (λ e h. (
        begun_all b (λ e x. t.changing e ≡ false → changes x.state ≡ false) (λ _. q.settled) (λ i. (cs d i).1 refl) (λ e _ _ i. (cs e i).0) e h,
        heights_begin e ∙ sym (hs e),
      )) w

  pub kept_begin : ((e : ℕ) → robot (state_at xs e) ≡ true → (j : ℕ) × Way m (relief ys) e j) → Kept m s ys
  kept_begin ways =
      record {
        long = b.long ∙ k.long;
        fits = begun_all b (λ e x. Fits m s e x.height x.state)
            (busy_fits m s c (height_at xs c) n (state_at xs c) p y.time (k.fits c) (omega (arith, q.level (height_at xs c), (k.fits c).low))
            (λ r. q.level (height_at xs c) ∙ (k.fits c).flat r) (not_sinking p (height_at xs c) q.settled))
            (busy_fits m s d (height_at xs d) n (state_at xs d) (facing c p) y.time (k.fits d) y.later_low y.later_flat y.sunk)
            (λ e _ _. k.fits e);
        faces = begun_all b (λ e x. (f : ℕ) (r : Part) (i : ℕ) → x.state ≡ Busy r i → other r ≡ Some f → Facing m ys e f r i)
            (λ f r i e o. facing_only m ys c d f p r n i
            (record { state = ap (λ (x : Column). x.state) b.there; link = y.link; near = near_begin }) q.to e o)
            (λ f r i e o. facing_only m ys d c f (facing c p) r n i
            (record { state = ap (λ (x : Column). x.state) b.here ∙ ap (λ x. Busy x n) (sym q.again); link = y.link_back; near = record { up = near_begin.down; down = near_begin.up } })
            q.back e o)
            (λ e _ _. faces_else m s xs ys k heights_begin still_begin e);
        ways = begun_all b (λ e x. robot x.state ≡ true → (j : ℕ) × Way m (relief ys) e j)
            (λ _. ways c (ap robot y.stood)) (λ r. absurd (both_ways (robot_in (facing c p)) q.robot_there r)) (λ e _ _. ways e);
        not_full = omega (
          arith,
          k.not_full,
          begin_sum (λ _ x. one_if (robot x.state)) xs ys m.columns c d p n b y.in_here y.in_there y.apart,
          ap (λ t. one_if (robot t)) y.stood,
          ap (λ t. one_if (robot t)) y.was_free,
          ap one_if q.robot_here,
          ap one_if q.robot_there,
        );
        pairs = λ v i. omega (
          arith,
          k.pairs v i,
          begin_sum (λ _ x. share v i gives x.state) xs ys m.columns c d p n b y.in_here y.in_there y.apart,
          ap (share v i gives) y.stood,
          ap (share v i gives) y.was_free,
          begin_sum (λ _ x. share v i takes x.state) xs ys m.columns c d p n b y.in_here y.in_there y.apart,
          ap (share v i takes) y.stood,
          ap (share v i takes) y.was_free,
          ap (worth v (leb i n)) q.not_gives,
          ap (worth v (leb i n)) q.not_takes,
          ap (worth v (leb i n)) q.same,
        );
      }
