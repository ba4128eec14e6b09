-- The rules against the actions above are the rules over all: those below have not begun, or not ended, by then.
-- Assumes nothing.
use Rattle.std.proofs.Common.{◌≡◌, ℕ, zero, suc, ◌-◌, ◌<◌, ◌≤◌, Bool, false, cond, ◌&&◌, eqb, ltb, leb, ◌≢◌, ◌⊎◌, List, [], ◌∷◌, length, take, count_by, sym, ap, ◌∙◌, subst, ap₂, inl, inr, arith, take_all, take-suc}
use native.Mathlib.Decide.{le_ind}
use Rattle.std.proofs.lemmas.List.{get_or-take, length-take-le}
use Rattle.std.proofs.lemmas.List.Sums.{sum_by-append, sum_by-take-le}
use Rattle.std.proofs.lemmas.Bool.{cases_lt, cases_order, le-leb, lt-leb, and_left, and_right}
use Rattle.terms.specs.Durations.{SiteSettings}
use Rattle.terms.specs.declared.work.Work.TheVariants.{Entry, Leave}
use Rattle.ground.specs.Meaning.{Meaning}
use Rattle.plan.specs.Judged.{Judged, IsLeftStanding, RulesAsJudged, Timed}
use Rattle.plan.specs.Plan.{Action, Ends, Runs, Starts, Touches, carry_after, delivers, end_column, height_at, is_deliver, is_pick_up, line, makespan, no_action, picks, runs}
use Rattle.plan.specs.Rules.{Follows, Heights, Rules, Written}
use Rattle.plan.proofs.Busiest.{busiest}
use Rattle.plan.proofs.Counts.{count_front, count_same, count_by_cons, unit}

-- an action that has not ended yet does not count
pub not_yet : (x y : Bool) (e t : ℕ) → t < e → (x && (y && leb e t)) ≡ false
not_yet x y e t l = and_right x (y && leb e t) (and_right y (leb e t) (lt-leb e t l))

-- of actions that have ended by two times, the same count
ever : (x y : Bool) (e t u : ℕ) → e ≤ t → e ≤ u → (x && (y && leb e t)) ≡ (x && (y && leb e u))
ever x y e t u l m = ap (λ (b : Bool). x && (y && b)) (le-leb e t l ∙ sym (le-leb e u m))

-- heights are the same by two plans: then what is written fits both
rewritten : (p q : List Action) (a : Action) → ((c : ℕ) → height_at p a.start c ≡ height_at q a.start c) → Heights p a → Heights q a
rewritten p q a h w =
    subst (λ (x : ℕ). Written a.work a.from_height a.to_height (height_at q a.start a.from) x) (h a.to)
    (subst (λ (x : ℕ). Written a.work a.from_height a.to_height x (height_at p a.start a.to)) (h a.from) w)

pub ends_by : (plan : List Action) (i : ℕ) → i < length plan → (line plan i).end ≤ makespan plan
ends_by [] i l = absurd (omega arith)
ends_by (a ∷ rest) zero l = omega arith
ends_by (a ∷ rest) (suc i) l = omega (arith, ends_by rest i (omega arith))

-- the first k actions, one by one
front : (plan : List Action) (k i : ℕ) → i < k → line (take k plan) i ≡ line plan i
front plan k i l = get_or-take k plan i no_action l

module _ (plan : List Action) (longer : (i : ℕ) → i < length plan → (line plan i).start < (line plan i).end)
    (in_order : (i j : ℕ) → i ≤ j → j < length plan → (line plan i).start ≤ (line plan j).start) where
  -- actions from k on have not ended at the start of k
  heights_front : (k : ℕ) → k < length plan → (c : ℕ) → height_at (take k plan) (line plan k).start c ≡ height_at plan (line plan k).start c
  heights_front k l c =
      ap₂ ◌-◌
      (count_front (delivers (line plan k).start c) no_action plan k
      (λ i g li. not_yet (is_deliver (line plan i).work) (eqb (line plan i).to c) (line plan i).end (line plan k).start (omega (arith, longer i li, in_order k i g li))))
      (count_front (picks (line plan k).start c) no_action plan k
      (λ i g li. not_yet (is_pick_up (line plan i).work) (eqb (line plan i).to c) (line plan i).end (line plan k).start (omega (arith, longer i li, in_order k i g li))))

  -- one by one from i on: each starts at the same time and has its own count, or later and does not count
  limit_up : (most : ℕ) → ((k : ℕ) → k < length plan → count_by (runs (line plan k).start) (take (suc k) plan) ≤ most)
      → (i : ℕ) → i < length plan → (k : ℕ) → suc i ≤ k → k ≤ length plan → count_by (runs (line plan i).start) (take k plan) ≤ most
  limit_up most h i l k g =
      le_ind (λ k. k ≤ length plan → count_by (runs (line plan i).start) (take k plan) ≤ most) (λ _. h i l)
      (λ k ik ih lk. elim (cases_lt (line plan i).start (line plan k).start) [
        | inl later ↦ more k lk later (ih (omega arith))
        | inr same ↦
            let e : (line plan k).start ≡ (line plan i).start = omega (arith, in_order i k (omega arith) lk) in
            subst (λ (u : ℕ). count_by (runs u) (take (suc k) plan) ≤ most) e (h k lk)
      ]) k g
    where
      more : (k : ℕ) → k < length plan → (line plan i).start < (line plan k).start → count_by (runs (line plan i).start) (take k plan) ≤ most
          → count_by (runs (line plan i).start) (take (suc k) plan) ≤ most
      more k lk later ih =
          let p : Action → Bool = runs (line plan i).start in
          let out : p (line plan k) ≡ false = and_left (leb (line plan k).start (line plan i).start) (ltb (line plan i).start (line plan k).end) (lt-leb (line plan k).start (line plan i).start later) in
          omega (
            arith,
            ih,
            ap (count_by p) (take-suc plan k no_action lk),
            sum_by-append (λ x. cond (p x) 1 0) (take k plan) (line plan k ∷ []),
            count_by_cons p (line plan k) [],
            ap unit out,
          )

-- when all has ended, heights change no more
settled : (plan : List Action) (c t u : ℕ) → ((i : ℕ) → i < length plan → (line plan i).end ≤ t) → ((i : ℕ) → i < length plan → (line plan i).end ≤ u)
    → height_at plan t c ≡ height_at plan u c
settled plan c t u h g =
    ap₂ ◌-◌
    (count_same (delivers t c) (delivers u c) no_action plan
    (λ i l. ever (is_deliver (line plan i).work) (eqb (line plan i).to c) (line plan i).end t u (h i l) (g i l)))
    (count_same (picks t c) (picks u c) no_action plan
    (λ i l. ever (is_pick_up (line plan i).work) (eqb (line plan i).to c) (line plan i).end t u (h i l) (g i l)))

module _ {m : Meaning} {s : SiteSettings} {plan : List Action} {targets : ℕ → ℕ} (timed : Timed s) where
  judged_rules : Judged m s plan targets → Rules m s plan targets
  judged_rules j =
      record {
        one_column = j.one_column;
        loaded = j.loaded;
        on_scale = λ i l. (j.meets i l).on_scale;
        joined = λ i l. (j.meets i l).joined;
        lasts = λ i l. (j.meets i l).lasts;
        in_order = in_order;
        carried_on = j.carried_on;
        heights = λ i l. rewritten (take i plan) plan (line plan i) (heights_front plan longer in_order i l) (j.meets i l).heights;
        zones = zones;
        follows = follows;
        limit = λ t. most t (busiest t plan);
        reached = λ c t l h. settled plan c t (makespan plan) h (ends_by plan) ∙ j.reached c l;
      }
    where
      longer : (i : ℕ) → i < length plan → (line plan i).start < (line plan i).end
      longer i l = omega (arith, timed (line plan i).work (line plan i).carry, (j.meets i l).lasts)

      next : (k : ℕ) → suc k < length plan → (line plan k).start ≤ (line plan (suc k)).start
      next k l =
          let b = (j.meets (suc k) l).in_order k (sym (length-take-le (suc k) plan (omega arith))) in
          subst (λ (a : Action). a.start ≤ (line plan (suc k)).start) (front plan (suc k) k (omega arith)) b

      in_order : (i k : ℕ) → i ≤ k → k < length plan → (line plan i).start ≤ (line plan k).start
      in_order i k g =
          le_ind (λ k. k < length plan → (line plan i).start ≤ (line plan k).start) (λ _. omega arith)
          (λ k _ ih l. omega (arith, ih (omega arith), next k l)) k g

      clear : (k i t c : ℕ) → k < length plan → i < k → Runs (line plan i) t → Runs (line plan k) t → Touches (line plan i) c → Touches (line plan k) c → ⊥
      clear k i t c l g r q v w =
          let e = sym (front plan k i g) in
          (j.meets k l).apart i (omega (arith, length-take-le k plan (omega arith)))
          (t, c, subst (λ (a : Action). Runs a t) e r, q, subst (λ (a : Action). Touches a c) e v, w)

      zones : (i k t c : ℕ) → i < length plan → k < length plan → Runs (line plan i) t → Runs (line plan k) t
          → Touches (line plan i) c → Touches (line plan k) c → i ≡ k
      zones i k t c li lk r q v w =
          elim (cases_order i k) [
            | inl e ↦ e
            | inr o ↦ elim o [ inl g ↦ absurd (clear k i t c lk g r q v w) | inr g ↦ absurd (clear i k t c li g q r w v) ]
          ]

      follows : (i : ℕ) → i < length plan → (line plan i).work ≢ Entry → Follows plan i (line plan i)
      follows i l n =
          let (k, lk, en, ca) = (j.meets i l).follows n in
          let g : k < i = omega (arith, length-take-le i plan (omega arith)) in
          let e = front plan i k g in
          (k, g, subst (λ (a : Action). Ends a (line plan i).start (line plan i).from) e en, subst (λ (a : Action). carry_after a ≡ (line plan i).carry) e ca)

      at_start : (i : ℕ) → i < length plan → count_by (runs (line plan i).start) plan ≤ s.robots
      at_start i l =
          subst (λ (r : List Action). count_by (runs (line plan i).start) r ≤ s.robots) (take_all (length plan) plan (omega arith))
          (limit_up plan longer in_order s.robots
          (λ k lk. subst (λ (r : List Action). count_by (runs (line plan k).start) r ≤ s.robots) (sym (take-suc plan k no_action lk)) (j.meets k lk).limit)
          i l (length plan) l (omega arith))

      most : (t : ℕ) → (count_by (runs t) plan ≡ 0) ⊎ ((i : ℕ) × (i < length plan) × (count_by (runs t) plan ≤ count_by (runs (line plan i).start) plan)) → count_by (runs t) plan ≤ s.robots
      most t (inl e) = omega arith
      most t (inr (i, l, h)) = omega (arith, at_start i l)

  rules_judged : Rules m s plan targets → Judged m s plan targets
  rules_judged ru =
      record {
        one_column = ru.one_column;
        loaded = ru.loaded;
        meets = λ k l. record {
          on_scale = ru.on_scale k l;
          joined = ru.joined k l;
          lasts = ru.lasts k l;
          in_order = next k l;
          none_left = λ c _. none_left k c l;
          heights = rewritten plan (take k plan) (line plan k) (λ c. sym (heights_front plan longer ru.in_order k l c)) (ru.heights k l);
          apart = apart k l;
          follows = follows k l;
          limit =
              subst (λ (r : List Action). count_by (runs (line plan k).start) r ≤ s.robots) (take-suc plan k no_action l)
              (omega (arith, sum_by-take-le (λ x. cond (runs (line plan k).start x) 1 0) plan (suc k), ru.limit (line plan k).start));
        };
        carried_on = ru.carried_on;
        reached = λ c l. ru.reached c (makespan plan) l (ends_by plan);
      }
    where
      longer : (i : ℕ) → i < length plan → (line plan i).start < (line plan i).end
      longer i l = omega (arith, timed (line plan i).work (line plan i).carry, ru.lasts i l)

      size : (k : ℕ) → k < length plan → length (take k plan) ≡ k
      size k l = length-take-le k plan (omega arith)

      next : (k : ℕ) → k < length plan → (i : ℕ) → suc i ≡ length (take k plan) → (line (take k plan) i).start ≤ (line plan k).start
      next k l i e =
          let g : i < k = omega (arith, size k l) in
          subst (λ (a : Action). a.start ≤ (line plan k).start) (sym (front plan k i g)) (ru.in_order i k (omega arith) l)

      none_left : (k c : ℕ) → k < length plan → IsLeftStanding (take k plan) (line plan k).start c → ⊥
      none_left k c l (i, li, n, b, e, out) =
          let g : i < k = omega (arith, size k l) in
          let f = front plan k i g in
          let (j, lj, st) = ru.carried_on i (omega arith) (subst (λ (a : Action). a.work ≢ Leave) f n) in
          let b' : (line plan i).end < (line plan k).start = subst (λ (a : Action). a.end < (line plan k).start) f b in
          let jk : j < k = elim (cases_lt j k) [ inl h ↦ h | inr h ↦ absurd (omega (arith, ru.in_order k j h lj, st.when)) ] in
          let st' : Starts (line plan j) (line (take k plan) i).end (end_column (line (take k plan) i)) =
          subst (λ (a : Action). Starts (line plan j) a.end (end_column a)) (sym f) st in
          out (
            j,
            omega (arith, size k l),
            subst (λ (x : ℕ). Starts (line (take k plan) j) (line (take k plan) i).end x) e
                (subst (λ (a : Action). Starts a (line (take k plan) i).end (end_column (line (take k plan) i))) (sym (front plan k j jk)) st'),
          )

      apart : (k : ℕ) → k < length plan → (i : ℕ) → i < length (take k plan)
          → ((t : ℕ) × (c : ℕ) × Runs (line (take k plan) i) t × Runs (line plan k) t × Touches (line (take k plan) i) c × Touches (line plan k) c) → ⊥
      apart k l i li (t, c, r, q, v, w) =
          let g : i < k = omega (arith, size k l) in
          let f = front plan k i g in
          omega (arith, ru.zones i k t c (omega arith) l (subst (λ (a : Action). Runs a t) f r) q (subst (λ (a : Action). Touches a c) f v) w)

      follows : (k : ℕ) → k < length plan → (line plan k).work ≢ Entry → Follows (take k plan) (length (take k plan)) (line plan k)
      follows k l n =
          let (j, lj, en, ca) = ru.follows k l n in
          let f = sym (front plan k j lj) in
          (j, omega (arith, size k l), subst (λ (a : Action). Ends a (line plan k).start (line plan k).from) f en, subst (λ (a : Action). carry_after a ≡ (line plan k).carry) f ca)

pub rules_as_judged : RulesAsJudged
rules_as_judged m s plan targets timed = (judged_rules timed, rules_judged timed)
