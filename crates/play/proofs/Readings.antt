-- What a plan says of robots and of changing columns is what the site shows, so the same robots have no way home. Assumes nothing.
use Rattle.std.proofs.Common.{◌≡◌, ℕ, ◌-◌, ◌<◌, ◌≤◌, Bool, true, false, not, ◌&&◌, ◌||◌, eqb, ◌≢◌, ◌⊎◌, List, length, get_or, take, Decides, sym, refl, ap, ◌∙◌, subst, inl, inr, arith}
use Rattle.std.proofs.lemmas.List.{get_or_past, get_or-take, length-take-le}
use Rattle.std.proofs.lemmas.Bool.{and_from, and_parts, both_ways, cases_lt, eq-eqb, eqb-false, ne_eqb, not_from_false, not-true}
use Rattle.std.proofs.lemmas.Bool.Decides.{Decides-and, Decides-eqb, Decides-like}
use Rattle.terms.specs.Durations.{SiteSettings}
use Rattle.terms.specs.declared.work.Work.{Work}
use Rattle.terms.specs.declared.work.Work.TheVariants.{Entry, Leave, Wait, Move, PickUp, Deliver}
use Rattle.ground.specs.Meaning.{Meaning}
use Rattle.ways.specs.Way.{NoWay, Relief}
use Rattle.ways.specs.View.{marked}
use Rattle.gate.specs.declared.column.Column.{Column}
use Rattle.gate.specs.declared.column.State.TheVariants.{Free}
use Rattle.gate.specs.Column.{changes, fresh, robot}
use Rattle.gate.specs.Scene.{Columns, Scene, one_if, state_at, tried}
use Rattle.gate.specs.Scene.{height_at as height_in}
use Rattle.gate.specs.Words.{Stranded}
use Rattle.plan.specs.Plan.{Action, Runs, Touches, height_at, line, no_action, runs}
use Rattle.plan.proofs.Searches.{decides_runs, decides_some_of}
use Rattle.play.specs.Shown.{Described, Holder, changes_at, changes_height, changing, shown_by}
use Rattle.play.specs.Shown.Holder.{by_running, by_ended}
use Rattle.play.specs.Strands.{RobotAt, Strands, relief_at}
use Rattle.play.specs.Strands.RobotAt.{acts, rests}
use Rattle.play.proofs.Faces.{TwoColumns, from_robot, robot_from, shown_changes}
use Rattle.play.proofs.Marks.{Marked}
use Rattle.play.proofs.Plans.{Obeys, two}
use Rattle.play.proofs.Site.{Shows}

abbrev pub site : Meaning → SiteSettings → Columns → List ℕ → Scene
site m s xs ms = record { meaning = m; settings = s; columns = xs; marks = ms }

-- two tests that decide the same are the same
same_test : {P : Type 0} (a b : Bool) → Decides a P → Decides b P → a ≡ b
same_test true b d e = sym (e.1 (d.0 refl))
same_test false true d e = d.1 (e.0 refl)
same_test false false d e = refl

-- of the first k actions one runs and changes column c
abbrev Changing : List Action → ℕ → ℕ → ℕ → Type 0
Changing plan k t c = (i : ℕ) × (i < k) × (changes_height (line plan i).work ≡ true) × Runs (line plan i) t × ((line plan i).to ≡ c)

changes_decides : (t c : ℕ) (a : Action) → Decides (changes_at t c a) ((changes_height a.work ≡ true) × (Runs a t × (a.to ≡ c)))
changes_decides t c a =
    Decides-and (changes_height a.work) (runs t a && eqb a.to c) (λ e. e, λ e. e)
    (Decides-and (runs t a) (eqb a.to c) (decides_runs t a) (Decides-eqb a.to c))

changing_decides : (plan : List Action) (k t c : ℕ) → k ≤ length plan → Decides (changing plan k t c) (Changing plan k t c)
changing_decides plan k t c g =
    let P : Action → Type 0 = λ a. (changes_height a.work ≡ true) × (Runs a t × (a.to ≡ c)) in
    Decides-like (changing plan k t c)
    (λ w. let l : w.0 < k = omega (arith, w.1, length-take-le k plan g) in
    let q = subst P (get_or-take k plan w.0 no_action l) w.2 in
    (w.0, l, q.0, q.1.0, q.1.1))
    (λ w. (w.0, omega (arith, w.1, length-take-le k plan g), subst P (sym (get_or-take k plan w.0 no_action w.1)) (w.2, (w.3, w.4))))
    (decides_some_of (changes_at t c) P no_action (changes_decides t c) (take k plan))

apart : (w : Work) (f o : ℕ) → TwoColumns w f o → changes_height w ≡ true → f ≢ o
apart Entry f o d e = absurd (both_ways false refl e)
apart Leave f o d e = absurd (both_ways false refl e)
apart Wait f o d e = absurd (both_ways false refl e)
apart Move f o d e = d
apart PickUp f o d e = d
apart Deliver f o d e = d

other : (f o c : ℕ) → f ≢ c → (f ≡ c) ⊎ (o ≡ c) → o ≡ c
other f o c n (inl e) = absurd (n e)
other f o c n (inr e) = e

module _ {m : Meaning} {s : SiteSettings} {plan : List Action} {targets : ℕ → ℕ} (ob : Obeys m s plan targets)
    {k t : ℕ} {xs : Columns} (sh : Shows m plan k t xs) where
  in_plan : (i : ℕ) → i < k → i < length plan
  in_plan i l = omega (arith, sh.so_far)

  -- ---- changing columns

  changes_shown : (i c : ℕ) → i < k → Runs (line plan i) t → Touches (line plan i) c
      → changes (state_at xs c) ≡ (changes_height (line plan i).work && not (eqb (line plan i).from c))
  changes_shown i c l r w =
      let a : Action = line plan i in
      ap changes (sh.running i c l r w) ∙ shown_changes a.work a.carry a.from a.to (a.end - t) (eqb a.from c)

  changing_shown : (c : ℕ) → Decides (changes (state_at xs c)) (Changing plan k t c)
  changing_shown c = go (sh.explained c)
    where
      runs_there : (i : ℕ) → i < k → Runs (line plan i) t → Touches (line plan i) c → changes (state_at xs c) ≡ true → Changing plan k t c
      runs_there i l r w e =
          let p = and_parts (changes_height (line plan i).work) (not (eqb (line plan i).from c)) (sym (changes_shown i c l r w) ∙ e) in
          let n : (line plan i).from ≢ c = eqb-false (line plan i).from c (not-true (eqb (line plan i).from c) p.1) in
          (i, l, p.0, r, other (line plan i).from (line plan i).to c n w)

      changes_there : Changing plan k t c → changes (state_at xs c) ≡ true
      changes_there (i, l, e, r, o) =
          let a : Action = line plan i in
          let n : a.from ≢ c = λ q. apart a.work a.from a.to (two ob i (in_plan i l)) e (q ∙ sym o) in
          changes_shown i c l r (inr o)
          ∙ and_from (changes_height a.work) (not (eqb a.from c)) e (not_from_false (eqb a.from c) (ne_eqb a.from c n))

      go : (state_at xs c ≡ Free) ⊎ Holder plan k t c → Decides (changes (state_at xs c)) (Changing plan k t c)
      go (inl e) = (λ q. absurd (both_ways (changes (state_at xs c)) (ap changes e) q), changes_there)
      go (inr (by_running i l r w)) = (runs_there i l r w, changes_there)
      go (inr (by_ended i l e n)) = (λ q. absurd (both_ways (changes (state_at xs c)) (ap changes (sh.standing i c l e n)) q), changes_there)

  changing_so : (c : ℕ) → changes (state_at xs c) ≡ changing plan k t c
  changing_so c = same_test (changes (state_at xs c)) (changing plan k t c) (changing_shown c) (changing_decides plan k t c sh.so_far)

  -- ---- robots

  robot_decides : (c : ℕ) → Decides (robot (state_at xs c)) (RobotAt plan k t c)
  robot_decides c = (there (sh.explained c), shown_there)
    where
      there : (state_at xs c ≡ Free) ⊎ Holder plan k t c → robot (state_at xs c) ≡ true → RobotAt plan k t c
      there (inl e) q = absurd (both_ways (robot (state_at xs c)) (ap robot e) q)
      there (inr (by_running i l r w)) q =
          let a : Action = line plan i in
          acts i l r (robot_from a.work a.carry a.from a.to (a.end - t) c (ob.rules.one_column i (in_plan i l)) w (ap robot (sym (sh.running i c l r w)) ∙ q))
      there (inr (by_ended i l e n)) q = rests i l e n

      shown_there : RobotAt plan k t c → robot (state_at xs c) ≡ true
      shown_there (acts i l r e) =
          let a : Action = line plan i in
          ap robot (sh.running i c l r (inl e))
          ∙ ap (λ (x : Bool). robot (shown_by a.work a.carry a.from a.to (a.end - t) x)) (eq-eqb a.from c e)
          ∙ from_robot a.work a.carry a.from a.to (a.end - t)
      shown_there (rests i l e n) = ap robot (sh.standing i c l e n)

  on_ground : (c : ℕ) → robot (state_at xs c) ≡ true → c < m.columns
  on_ground c q = elim (cases_lt c m.columns) [
    | inl l ↦ l
    | inr g ↦ absurd (both_ways (robot (state_at xs c)) (ap (λ (x : Column). robot x.state) (get_or_past xs c fresh (omega (arith, sh.size)))) q)
  ]

  -- ---- how the ground lies

  heights_so : (c : ℕ) → height_in xs c ≡ height_at plan t c
  heights_so c = omega (arith, sh.raised c)

  module _ {ms : List ℕ} (mk : Marked xs ms) where
    mark_so : (c : ℕ) → get_or ms c 0 ≡ one_if (changing plan k t c)
    mark_so c = mk.tells c ∙ ap one_if (changing_so c)

    marked_one : (b : Bool) → not (eqb (one_if b) 0) ≡ b
    marked_one true = refl
    marked_one false = refl

    marked_so : (c : ℕ) → marked ms c ≡ changing plan k t c
    marked_so c = ap (λ (n : ℕ). not (eqb n 0)) (mark_so c) ∙ marked_one (changing plan k t c)

    lies_so : (d : ℕ) → tried (site m s xs ms) d ≡ relief_at plan k t d
    lies_so d = λ i. record { heights = λ c. heights_so c i; changing = λ c. eqb c d || marked_so c i }

    pub described : Described m s plan k t (site m s xs ms)
    described =
        record {
          meaning = refl;
          settings = refl;
          size = sh.size;
          room = mk.room;
          running = sh.running;
          standing = sh.standing;
          free = λ c n. elim (sh.explained c) [ inl e ↦ e | inr h ↦ absurd (n h) ];
          heights = heights_so;
          marks = mark_so;
        }

    -- a robot that the gate finds stranded is one that the plan strands, and the other way round
    pub strands_there : k < length plan → changes_height (line plan k).work ≡ true → (line plan k).start ≡ t
        → (c : ℕ) → Stranded (site m s xs ms) (line plan k).to c → Strands m plan k c
    strands_there l e due c h =
        record {
          there = l;
          changes = e;
          robot = subst (λ (u : ℕ). RobotAt plan k u c) (sym due) ((robot_decides c).0 h.1);
          no_way = subst (λ (u : ℕ). NoWay m (relief_at plan k u (line plan k).to) c) (sym due)
              (subst (λ (r : Relief). NoWay m r c) (lies_so (line plan k).to) h.2);
        }

    pub stranded_here : (line plan k).start ≡ t → (c : ℕ) → Strands m plan k c → Stranded (site m s xs ms) (line plan k).to c
    stranded_here due c h =
        let q = (robot_decides c).1 (subst (λ (u : ℕ). RobotAt plan k u c) due h.robot) in (
          on_ground c q,
          q,
          subst (λ (r : Relief). NoWay m r c) (sym (lies_so (line plan k).to))
              (subst (λ (u : ℕ). NoWay m (relief_at plan k u (line plan k).to) c) due h.no_way),
        )
