-- What the robots still have to do, each counted where it will stand: what the calls do to that sum while nothing changes height. Assumes nothing.
use Rattle.std.proofs.Common.{◌≡◌, ℕ, zero, suc, ◌+◌, Bool, false, cond, Some, None, Option, sym, refl, ap, ◌∙◌, arith}
use Rattle.std.proofs.lemmas.Bool.{true≢false}
use Rattle.gate.proofs.Sums.{sum_same}
use Rattle.gate.specs.Column.{changes_in, stays, runs, robot, carries, changes, rest, next}
use Rattle.gate.specs.Gate.{granted}
use Rattle.gate.specs.Recall.{cost_of}
use Rattle.gate.specs.Scene.{Columns, height_at, state_at, tick_all, sum_below}
use Rattle.gate.specs.declared.call.Call.TheVariants.{Enter, Move, Leave}
use Rattle.gate.specs.declared.column.Column.{Column}
use Rattle.gate.specs.declared.column.Part.{Part}
use Rattle.gate.specs.declared.column.Part.TheVariants.{Entering, Leaving, Departing}
use Rattle.gate.specs.declared.column.State.{State}
use Rattle.gate.specs.declared.column.State.TheVariants.{Free, Standing, Busy}
use Rattle.ground.specs.Meaning.{Meaning, Lawful}
use Rattle.terms.specs.Durations.{SiteSettings}
use Rattle.undertaking.proofs.Plain.{Proper, relief, answer, toll, robot_steps}
use Rattle.gate.specs.Time.{Quiet}
use Rattle.ways.specs.Table.{steps}
use Rattle.ways.specs.Way.{Relief}
use Rattle.undertaking.proofs.Seen.{Put, put_all, begun_all, put_sum, begin_sum}
use Rattle.undertaking.proofs.Kept.{Kept}
use Rattle.undertaking.proofs.Ticks.{state_tick, relief_tick}
use Rattle.undertaking.proofs.Grants.{idle_settled}
use Rattle.undertaking.proofs.Allowed.{move_time, ready_begun, enters, leaves, moves_ready}

-- the robot that stands there when what runs has ended
abbrev pub comes : State → Option Bool
comes Free = None
comes (Standing b) = Some b
comes (Busy p n) = stays p

abbrev pub weight : Option Bool → ℕ → ℕ
weight None k = 0
weight (Some b) k = k

abbrev pub cost : Meaning → Relief → ℕ → ℕ
cost m r c = cost_of (steps m r c)

abbrev pub due : Meaning → Relief → Columns → ℕ
due m r xs = sum_below (λ c. weight (comes (state_at xs c)) (cost m r c)) m.columns

comes_rest : (o : Option Bool) → comes (rest o) ≡ o
comes_rest None = refl
comes_rest (Some b) = refl

pub comes_next : (t : State) → comes (next t) ≡ comes t
comes_next Free = refl
comes_next (Standing b) = refl
comes_next (Busy p zero) = comes_rest (stays p)
comes_next (Busy p (suc zero)) = comes_rest (stays p)
comes_next (Busy p (suc (suc n))) = refl

idle_due : (t : State) (o : Option ℕ) → runs t ≡ false → cost_of (cond (robot t) o None) ≡ weight (comes t) (cost_of o)
idle_due Free o e = refl
idle_due (Standing b) o e = refl
idle_due (Busy p n) o e = absurd (true≢false e)

-- where nothing runs it is the toll
pub toll_due : (m : Meaning) (xs : Columns) → Quiet xs → toll m xs ≡ due m (relief xs) xs
toll_due m xs q =
    sum_same (λ c. cost_of (robot_steps m xs c)) (λ c. weight (comes (state_at xs c)) (cost m (relief xs) c)) m.columns
    (λ c _. idle_due (state_at xs c) (steps m (relief xs) c) (q c))

-- no column is changing
abbrev pub Calm : Columns → Type 0
Calm xs = (c : ℕ) → changes (state_at xs c) ≡ false

pub quiet_calm : (xs : Columns) → Quiet xs → Calm xs
quiet_calm xs q c = idle_settled (state_at xs c) (q c)

-- nothing is changing, and the ground lies as before
pub record Level (xs ys : Columns) : Type 0 where
  pub calm : Calm ys
  pub same : relief ys ≡ relief xs

level_from : (xs ys : Columns) → Calm xs → ((e : ℕ) → (changes (state_at ys e) ≡ false) × (height_at ys e ≡ height_at xs e)) → Level xs ys
level_from xs ys c h =
    record {
      calm = λ e. (h e).0;
      same = λ i. record { heights = λ e. (h e).1 i; changing = λ e. let p : changes (state_at ys e) ≡ changes (state_at xs e) = (h e).0 ∙ sym (c e) in p i };
    }

pub level_tick : (m : Meaning) (xs : Columns) → Calm xs → Level xs (tick_all xs)
level_tick m xs c = level_from xs (tick_all xs) c (λ e. relief_tick m xs e (c e))

pub due_tick : (m : Meaning) (r : Relief) (xs : Columns) → due m r (tick_all xs) ≡ due m r xs
due_tick m r xs =
    sum_same (λ c. weight (comes (state_at (tick_all xs) c)) (cost m r c)) (λ c. weight (comes (state_at xs c)) (cost m r c)) m.columns
    (λ c _. ap (λ t. weight (comes t) (cost m r c)) (state_tick m xs c) ∙ ap (λ o. weight o (cost m r c)) (comes_next (state_at xs c)))

module _ (m : Meaning) (s : SiteSettings) (law : Lawful m) (ok : Proper s) (xs : Columns) (k : Kept m s xs) where
  level_put : (c : ℕ) (p : Part) (n : ℕ) (ys : Columns) → Put xs ys c (Busy p n) → changes_in p ≡ false → Calm xs → Level xs ys
  level_put c p n ys b z h = level_from xs ys h (put_all b (λ e x. (changes x.state ≡ false) × (x.height ≡ height_at xs e)) (z, refl) (λ e _. (h e, refl)))

  pub level_enter : (c : ℕ) (b : Bool) → answer m s xs (Enter c b) ≡ None → Calm xs → Level xs (granted s xs (Enter c b))
  level_enter c b a = level_put c (Entering b) s.times.entry (granted s xs (Enter c b)) (enters m s law ok xs k c b a).begun refl

  pub level_leave : (c : ℕ) → answer m s xs (Leave c) ≡ None → Calm xs → Level xs (granted s xs (Leave c))
  level_leave c a = level_put c (Leaving (carries (state_at xs c))) s.times.leave (granted s xs (Leave c)) (leaves m s law ok xs k c a).begun refl

  pub level_move : (c d : ℕ) → answer m s xs (Move c d) ≡ None → Calm xs → Level xs (granted s xs (Move c d))
  level_move c d a h =
      let b = ready_begun m s law ok xs k c d (Departing (carries (state_at xs c)) d) (move_time s xs c) (moves_ready m s law ok xs k c d a) in
      level_from xs (granted s xs (Move c d)) h
      (begun_all b (λ e x. (changes x.state ≡ false) × (x.height ≡ height_at xs e)) (refl, refl) (refl, refl) (λ e _ _. (h e, refl)))

  module _ (r : Relief) where
    amount : ℕ → Column → ℕ
    amount c x = weight (comes x.state) (cost m r c)

    pub due_enter : (c : ℕ) (b : Bool) → answer m s xs (Enter c b) ≡ None → due m r (granted s xs (Enter c b)) ≡ due m r xs + cost m r c
    unfolding amount
    due_enter c b a =
        let e = enters m s law ok xs k c b a in
        omega (
          arith,
          put_sum amount xs (granted s xs (Enter c b)) m.columns c (Busy (Entering b) s.times.entry) e.begun e.in_here,
          ap (λ t. weight (comes t) (cost m r c)) e.was,
        )

    pub due_leave : (c : ℕ) → answer m s xs (Leave c) ≡ None → due m r (granted s xs (Leave c)) + cost m r c ≡ due m r xs
    unfolding amount
    due_leave c a =
        let e = leaves m s law ok xs k c a in
        omega (
          arith,
          put_sum amount xs (granted s xs (Leave c)) m.columns c (Busy (Leaving (carries (state_at xs c))) s.times.leave) e.begun e.in_here,
          ap (λ t. weight (comes t) (cost m r c)) e.was,
        )

    pub due_move : (c d : ℕ) → answer m s xs (Move c d) ≡ None → due m r (granted s xs (Move c d)) + cost m r c ≡ due m r xs + cost m r d
    unfolding amount
    due_move c d a =
        let p = Departing (carries (state_at xs c)) d in
        let n = move_time s xs c in
        let y = moves_ready m s law ok xs k c d a in
        let b = ready_begun m s law ok xs k c d p n y in
        omega (
          arith,
          begin_sum amount xs (granted s xs (Move c d)) m.columns c d p n b y.in_here y.in_there y.apart,
          ap (λ t. weight (comes t) (cost m r c)) y.stood,
          ap (λ t. weight (comes t) (cost m r d)) y.was_free,
        )
