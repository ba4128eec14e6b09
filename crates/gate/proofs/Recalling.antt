-- Recall names the right robot and the right action, where every robot has a way home. Assumes nothing.
use Rattle.std.proofs.Common.{◌≡◌, ℕ, zero, suc, ◌<◌, Bool, true, false, cond, Some, None, Err, Option, Result, unwrap_or, sym, refl, ap, ◌∙◌, subst, inl, inr, arith}
use Rattle.std.proofs.lemmas.Bool.{cases_Bool, both_ways, cond-true, cond-false}
use Rattle.terms.specs.Refusals.{Told, told}
use Rattle.terms.specs.declared.refusal.Rule.TheVariants.{ActionRuns}
use Rattle.ground.specs.Meaning.{Meaning, Lawful}
use Rattle.ways.specs.Way.{Relief, Settled, Way}
use Rattle.ways.specs.Way.Way.{home, onward}
use Rattle.ways.specs.Table.{steps, nearer}
use Rattle.ways.proofs.Firsts.{none≢some}
use Rattle.ways.proofs.Exactness.{ways_exact, steps_home}
use Rattle.ways.proofs.Nearest.{found}
use Rattle.gate.specs.declared.order.Next.TheVariants.{Moves}
use Rattle.gate.specs.declared.order.Order.{Order}
use Rattle.gate.specs.Column.{robot, runs}
use Rattle.gate.specs.Scene.{Columns, Scene, height_at, state_at, relief}
use Rattle.gate.specs.Words.{OnGround, Robot}
use Rattle.gate.specs.Recall.{robot_steps, best_below, cost_of, toll, next_by, named, any_runs, recalled, recall, Running, Homeward, Does, RightlyNamed, Recalled}
use Rattle.gate.proofs.Below.{any_decides}
use Rattle.gate.proofs.Sums.{sum_same}
use Rattle.gate.proofs.Picks.{Chosen, chosen}

pub way_settled : {m : Meaning} {r : Relief} {c n : ℕ} → Way m r c n → Settled r c
way_settled (home b h) = h
way_settled (onward l g h w) = h

pub home_border : {m : Meaning} {r : Relief} {c n : ℕ} → Way m r c n → n ≡ 0 → m.border c ≡ true
home_border (home b h) e = b
home_border (onward l g h w) e = absurd (omega arith)

pub cond_some : (b : Bool) (o : Option ℕ) (k : ℕ) → cond b o None ≡ Some k → (b ≡ true) × (o ≡ Some k)
cond_some true o k e = (refl, e)
cond_some false o k e = absurd (none≢some e)

-- the code's answers against the definitions
module _ (m : Meaning) (xs : Columns) (found_steps : ℕ → Option ℕ) (c : ℕ) where
  pub moves_by : (n : ℕ) → (n ≡ 0 → ⊥) → (o : Option ℕ) → o ≡ nearer m (height_at xs) found_steps c → Moves (unwrap_or o 0) ≡ next_by m xs found_steps c n
  moves_by zero h o e = absurd (h refl)
  moves_by (suc n) h o e = ap (λ x. Moves (unwrap_or x 0)) e

-- nothing runs: what is named by the steps that were found is the answer
pub quiet : (v : Scene) (found : ℕ → Option ℕ) → found ≡ steps v.meaning (relief v) → any_runs v.meaning v.columns ≡ false → (r : Result Order Told)
    → r ≡ named v.meaning v.columns found (best_below (robot_steps v.columns found) v.meaning.columns) → r ≡ recall v
quiet v found same q r e =
    let best = best_below (robot_steps v.columns found) v.meaning.columns in
    e ∙ sym (cond-false (any_runs v.meaning v.columns) (Err (told ActionRuns 0 0)) (named v.meaning v.columns found best) q) ∙ ap (λ (f : ℕ → Option ℕ). recalled v.meaning v.columns f) same

-- something runs
pub busy : (v : Scene) → any_runs v.meaning v.columns ≡ true → (r : Result Order Told) → r ≡ Err (told ActionRuns 0 0) → r ≡ recall v
busy v q r e =
    let f = steps v.meaning (relief v) in
    e ∙ sym (cond-true (any_runs v.meaning v.columns) (Err (told ActionRuns 0 0)) (named v.meaning v.columns f (best_below (robot_steps v.columns f) v.meaning.columns)) q)

module _ (v : Scene) (law : Lawful v.meaning) (h : Homeward v) where
  fewest : ℕ → ℕ
  fewest c = unwrap_or (steps v.meaning (relief v) c) 0

  labelled : (c : ℕ) → OnGround v c → Robot v c → steps v.meaning (relief v) c ≡ Some (fewest c)
  unfolding fewest
  labelled c l r =
      let w = h c l r in
      let e = (ways_exact v.meaning (relief v) law).complete c w.0 w.1 in
      e.1 ∙ ap Some (sym (ap (λ o. unwrap_or o 0) e.1))

  robot_labelled : (c : ℕ) → OnGround v c → Robot v c → robot_steps v.columns (steps v.meaning (relief v)) c ≡ Some (fewest c)
  robot_labelled c l r = cond-true (robot (state_at v.columns c)) (steps v.meaning (relief v) c) None r ∙ labelled c l r

  same_cost : (c : ℕ) → c < v.meaning.columns
      → cost_of (robot_steps v.columns (steps v.meaning (relief v)) c) ≡ cond (robot (state_at v.columns c)) (suc (fewest c)) 0
  same_cost c l = elim (cases_Bool (robot (state_at v.columns c))) [
    | inl r ↦ ap cost_of (robot_labelled c l r) ∙ sym (cond-true (robot (state_at v.columns c)) (suc (fewest c)) 0 r)
    | inr r ↦ ap cost_of (cond-false (robot (state_at v.columns c)) (steps v.meaning (relief v) c) None r) ∙ sym (cond-false (robot (state_at v.columns c)) (suc (fewest c)) 0 r)
  ]

  does_next : (c n : ℕ) → steps v.meaning (relief v) c ≡ Some n → Does v c n (next_by v.meaning v.columns (steps v.meaning (relief v)) c n)
  does_next c zero e = home_border (steps_home v.meaning (relief v) law c (Some 0) e).way refl
  does_next c (suc k) e =
      let s = steps_home v.meaning (relief v) law c (Some (suc k)) e in
      let d = found v.meaning (relief v) law c k e in
      let inner : v.meaning.border c ≡ false = elim (cases_Bool (v.meaning.border c)) [
        | inl b ↦ absurd (omega (arith, s.least 0 (home b (way_settled s.way))))
        | inr b ↦ b
      ] in
      let P : ℕ → Type 0 = λ x. Does v c (suc k) (Moves x) in
      subst P (sym (ap (λ o. unwrap_or o 0) d.1.is)) (
        inner,
        (k, refl, record { link = d.1.link; near = d.1.near; steps = steps_home v.meaning (relief v) law d.0 (Some k) d.1.labelled }, d.1.lowest),
      )

  names : (p : ℕ × ℕ) → Chosen (robot_steps v.columns (steps v.meaning (relief v))) v.meaning.columns (Some p)
      → RightlyNamed v (record {
        column = p.0;
        next = next_by v.meaning v.columns (steps v.meaning (relief v)) p.0 p.1;
        left = toll v.meaning v.columns (steps v.meaning (relief v));
      })
  names p c =
      let here = cond_some (robot (state_at v.columns p.0)) (steps v.meaning (relief v) p.0) p.1 c.1 in
      let is : p.1 ≡ fewest p.0 = let l = labelled p.0 c.0 here.0 in let e = here.1 in cc in
      let P : ℕ → Type 0 = λ x. Does v p.0 x (next_by v.meaning v.columns (steps v.meaning (relief v)) p.0 p.1) in
      record {
        fewest = fewest;
        are_fewest = λ e l r. steps_home v.meaning (relief v) law e (Some (fewest e)) (labelled e l r);
        on_ground = c.0;
        robot_there = here.0;
        nearest = λ e l r. omega (arith, is, c.2 e (fewest e) l (robot_labelled e l r));
        lowest = λ e l r q. c.3 e l (robot_labelled e l r ∙ ap Some (q ∙ sym is));
        does = subst P is (does_next p.0 p.1 here.1);
        counts = sum_same (λ e. cost_of (robot_steps v.columns (steps v.meaning (relief v)) e)) (λ e. cond (robot (state_at v.columns e)) (suc (fewest e)) 0) v.meaning.columns same_cost;
      }

  still : any_runs v.meaning v.columns ≡ false → Running v → ⊥
  still e (c, l, r) = both_ways (any_runs v.meaning v.columns) e ((any_decides (λ c. runs (state_at v.columns c)) v.meaning.columns).1 (c, l, r))

  quiet_rightly : (Running v → ⊥) → (best : Option (ℕ × ℕ)) → Chosen (robot_steps v.columns (steps v.meaning (relief v))) v.meaning.columns best
      → Recalled v (named v.meaning v.columns (steps v.meaning (relief v)) best)
  quiet_rightly q None c = inr (q, inl (λ e l r. none≢some (sym (c e l) ∙ robot_labelled e l r), refl))
  quiet_rightly q (Some p) c = let n = names p c in ((q, (λ nobody. nobody p.0 c.0 n.robot_there, tt)), n)

  pub recall_rightly : Recalled v (recall v)
  recall_rightly =
      let best = best_below (robot_steps v.columns (steps v.meaning (relief v))) v.meaning.columns in
      let P : Result Order Told → Type 0 = Recalled v in
      elim (cases_Bool (any_runs v.meaning v.columns)) [
        | inl e ↦ subst P (sym (cond-true (any_runs v.meaning v.columns) (Err (told ActionRuns 0 0)) (named v.meaning v.columns (steps v.meaning (relief v)) best) e))
            (inl ((any_decides (λ c. runs (state_at v.columns c)) v.meaning.columns).0 e, refl))
        | inr e ↦ subst P (sym (cond-false (any_runs v.meaning v.columns) (Err (told ActionRuns 0 0)) (named v.meaning v.columns (steps v.meaning (relief v)) best) e))
            (quiet_rightly (still e) best (chosen (robot_steps v.columns (steps v.meaning (relief v))) v.meaning.columns))
      ]

  pub rightly : (r : Result Order Told) → r ≡ recall v → Recalled v r
  rightly r e = let P : Result Order Told → Type 0 = Recalled v in subst P (sym e) recall_rightly
