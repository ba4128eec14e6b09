-- What a grant says of the site: for each call what its tests have found. Assumes nothing.
use Rattle.std.proofs.Common.{◌≡◌, ℕ, suc, pred, ◌+◌, ◌<◌, ◌≤◌, min, Bool, true, false, cond, not, ◌||◌, eqb, leb, ◌≢◌, length, None, sym, refl, ap, ◌∙◌, arith}
use Rattle.std.proofs.lemmas.Bool.{false≢true, both_ways, not-false, or_parts, leb-false, eqb-true, cond_both}
use Rattle.gate.specs.Column.{facing, built, held, stands, robot, carries}
use Rattle.gate.specs.Gate.{granted, off}
use Rattle.gate.specs.Scene.{Columns, height_at, state_at, begin, robots}
use Rattle.gate.specs.declared.call.Call.TheVariants.{Enter, Move, Lay, Lift, Leave}
use Rattle.gate.specs.declared.column.Column.{Column}
use Rattle.gate.specs.declared.column.Part.{Part}
use Rattle.gate.specs.declared.column.Part.TheVariants.{Entering, Leaving, Departing, Laying, Lifting, Sinking}
use Rattle.gate.specs.declared.column.State.TheVariants.{Free, Standing, Busy}
use Rattle.ground.specs.Meaning.{Meaning, Lawful}
use Rattle.terms.specs.Durations.{SiteSettings}
use Rattle.undertaking.proofs.Plain.{Proper, tests, answer}
use Rattle.ways.proofs.Tests.{near_decides}
use Rattle.ways.specs.Table.{near}
use Rattle.ways.specs.Way.{Near}
use Rattle.undertaking.proofs.Seen.{within, Put, putting, Begun, beginning}
use Rattle.undertaking.proofs.Kept.{Kept}
use Rattle.undertaking.proofs.Grants.{Lone, Giver, Ready}
use Rattle.undertaking.proofs.Asked.{all_fail, on_ground, is_standing, is_free}

pub one_higher : (h : ℕ) → h < 255 → min (h + 1) 255 ≡ suc h
one_higher h l = omega arith

one_higher_low : (h n : ℕ) → suc h < n → min (h + 1) 255 < n
one_higher_low h n l = omega arith

abbrev pub move_time : SiteSettings → Columns → ℕ → ℕ
move_time s xs c = cond (carries (state_at xs c)) s.times.loaded s.times.empty

pub lone_enter : (b : Bool) → Lone (Entering b)
lone_enter b = record { alone = refl; level = λ _. refl; settled = refl; not_gives = refl; not_takes = refl }

pub lone_leave : (b : Bool) → Lone (Leaving b)
lone_leave b = record { alone = refl; level = λ _. refl; settled = refl; not_gives = refl; not_takes = refl }

pub giver_move : (b : Bool) (c d : ℕ) → Giver c d (Departing b d)
giver_move b c d =
    record { to = refl; back = refl; again = refl; robot_there = refl; robot_here = refl; level = λ _. refl; settled = refl; not_gives = refl; not_takes = refl; same = refl }

pub giver_lay : (c d : ℕ) → Giver c d (Laying d)
giver_lay c d =
    record { to = refl; back = refl; again = refl; robot_there = refl; robot_here = refl; level = λ _. refl; settled = refl; not_gives = refl; not_takes = refl; same = refl }

pub giver_lift : (c d : ℕ) → Giver c d (Lifting d)
giver_lift c d =
    record { to = refl; back = refl; again = refl; robot_there = refl; robot_here = refl; level = λ _. refl; settled = refl; not_gives = refl; not_takes = refl; same = refl }

pub record Enters (m : Meaning) (s : SiteSettings) (xs : Columns) (c : ℕ) (b : Bool) : Type 0 where
  pub in_here : c < m.columns
  pub border : m.border c ≡ true
  pub was : state_at xs c ≡ Free
  pub room : robots m xs < s.robots
  pub begun : Put xs (granted s xs (Enter c b)) c (Busy (Entering b) s.times.entry)

pub record Leaves (m : Meaning) (s : SiteSettings) (xs : Columns) (c : ℕ) : Type 0 where
  pub in_here : c < m.columns
  pub was : state_at xs c ≡ Standing (carries (state_at xs c))
  pub border : m.border c ≡ true
  pub begun : Put xs (granted s xs (Leave c)) c (Busy (Leaving (carries (state_at xs c))) s.times.leave)

module _ (m : Meaning) (s : SiteSettings) (law : Lawful m) (ok : Proper s) (xs : Columns) (k : Kept m s xs) where
  linked_apart : (c d : ℕ) → m.linked c d ≡ true → c ≢ d
  linked_apart c d l e = both_ways (m.linked c c) (law.no_loop c) (ap (m.linked c) e ∙ l)

  -- a column that a robot is at is on the ground
  pub robot_within : (e : ℕ) → robot (state_at xs e) ≡ true → e < m.columns
  robot_within e r =
      let l = within xs e (λ i. false≢true (sym (ap (λ (x : Column). robot x.state) i) ∙ r)) in
      omega (arith, k.long)

  in_list : (c : ℕ) → c < m.columns → c < length xs
  in_list c l = omega (arith, k.long)

  pub ready_begun : (c d : ℕ) (p : Part) (n : ℕ) → Ready m s xs c d p n → Begun xs (begin xs c d p n) c d p n
  ready_begun c d p n y = beginning xs c d p n (in_list c y.in_here) (in_list d y.in_there) y.apart

  pub enters : (c : ℕ) (b : Bool) → answer m s xs (Enter c b) ≡ None → Enters m s xs c b
  enters c b a =
      let t = all_fail (tests m s xs (Enter c b)) a in
      record {
        in_here = on_ground m c t.0;
        border = not-false (m.border c) t.1.0;
        was = is_free (state_at xs c) t.1.1.0;
        room = leb-false s.robots (robots m xs) t.1.1.1.0;
        begun = putting xs c (Busy (Entering b) s.times.entry) (in_list c (on_ground m c t.0));
      }

  pub leaves : (c : ℕ) → answer m s xs (Leave c) ≡ None → Leaves m s xs c
  leaves c a =
      let t = all_fail (tests m s xs (Leave c)) a in
      record {
        in_here = on_ground m c t.0;
        was = is_standing (state_at xs c) (not-false (stands (state_at xs c)) t.1.0);
        border = not-false (m.border c) t.1.1.0;
        begun = putting xs c (Busy (Leaving (carries (state_at xs c))) s.times.leave) (in_list c (on_ground m c t.0));
      }

  -- the tests that a move, a lay and a lift have in common
  ready : (c d : ℕ) (p : Part) (n : ℕ) → (off m c || off m d) ≡ false → not (stands (state_at xs c)) ≡ false → m.linked c d ≡ true → held (state_at xs d) ≡ false
      → Near (height_at xs c) (height_at xs d) → 1 ≤ n → built (facing c p) (height_at xs d) < s.levels
      → (m.border d ≡ true → built (facing c p) (height_at xs d) ≡ 0) → ((f : ℕ) → facing c p ≡ Sinking f → 1 ≤ height_at xs d) → Ready m s xs c d p n
  ready c d p n grounds stood link was_free near time low flat sunk =
      let l = or_parts (off m c) (off m d) grounds in
      record {
        in_here = on_ground m c l.0;
        in_there = on_ground m d l.1;
        apart = linked_apart c d link;
        stood = is_standing (state_at xs c) (not-false (stands (state_at xs c)) stood);
        was_free = is_free (state_at xs d) was_free;
        link = link;
        link_back = law.both_ways c d link;
        near = near;
        time = time;
        later_low = low;
        later_flat = flat;
        sunk = sunk;
      }

  pub moves_ready : (c d : ℕ) → answer m s xs (Move c d) ≡ None → Ready m s xs c d (Departing (carries (state_at xs c)) d) (move_time s xs c)
  moves_ready c d a =
      let t = all_fail (tests m s xs (Move c d)) a in
      ready c d (Departing (carries (state_at xs c)) d) (move_time s xs c) t.0 t.1.0 (not-false (m.linked c d) t.1.1.0) t.1.1.1.0
      ((near_decides (height_at xs c) (height_at xs d)).0 (not-false (near (height_at xs c) (height_at xs d)) t.1.1.1.1.0))
      (cond_both (carries (state_at xs c)) s.times.loaded s.times.empty (λ x. 1 ≤ x) (λ _. ok.loaded) (λ _. ok.empty))
      (k.fits d).low (k.fits d).flat (λ f e. let z : ◌≡◌ {A = ℕ} 0 1 = cc in absurd (omega arith))

  pub lays_ready : (c d : ℕ) → answer m s xs (Lay c d) ≡ None → Ready m s xs c d (Laying d) s.times.deliver
  lays_ready c d a =
      let t = all_fail (tests m s xs (Lay c d)) a in
      let links = or_parts (not (m.linked c d)) (m.border d) t.1.1.1.0 in
      let hs = or_parts (not (eqb (height_at xs c) (height_at xs d))) (leb s.levels (suc (height_at xs d))) t.1.1.1.1.1.0 in
      let level = eqb-true (height_at xs c) (height_at xs d) (not-false (eqb (height_at xs c) (height_at xs d)) hs.0) in
      ready c d (Laying d) s.times.deliver t.0 t.1.0 (not-false (m.linked c d) links.0) t.1.1.1.1.0
      (omega arith) ok.deliver (let low = leb-false s.levels (suc (height_at xs d)) hs.1 in one_higher_low (height_at xs d) s.levels low)
      (λ r. absurd (both_ways (m.border d) links.1 r)) (λ f e. let z : ◌≡◌ {A = ℕ} 0 1 = cc in absurd (omega arith))

  pub lifts_ready : (c d : ℕ) → answer m s xs (Lift c d) ≡ None → Ready m s xs c d (Lifting d) s.times.pickup
  lifts_ready c d a =
      let t = all_fail (tests m s xs (Lift c d)) a in
      let links = or_parts (not (m.linked c d)) (m.border d) t.1.1.1.0 in
      let higher = eqb-true (height_at xs d) (suc (height_at xs c)) (not-false (eqb (height_at xs d) (suc (height_at xs c))) t.1.1.1.1.1.0) in
      let low : pred (height_at xs d) < s.levels = omega (arith, (k.fits d).low) in
      ready c d (Lifting d) s.times.pickup t.0 t.1.0 (not-false (m.linked c d) links.0) t.1.1.1.1.0
      (omega arith) ok.pickup low (λ r. absurd (both_ways (m.border d) links.1 r)) (λ f e. omega arith)
