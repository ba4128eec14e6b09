-- When an action is due, the site is ready for it: its robot stands there, its other column is free, the heights are as written,
-- and there is room for one that enters. Assumes nothing.
use Rattle.std.proofs.Common.{◌≡◌, ℕ, ◌+◌, ◌-◌, ◌<◌, Bool, true, false, ◌||◌, eqb, ◌≢◌, ◌⊎◌, List, length, sym, refl, ap, ◌∙◌, subst, inl, inr, arith}
use Rattle.std.proofs.lemmas.Bool.{both_ways, eq-eqb, eqb-true, or_cases, or_left, or_right}
use Rattle.terms.specs.Durations.{SiteSettings, duration_of}
use Rattle.terms.specs.declared.work.Work.{Work}
use Rattle.terms.specs.declared.work.Work.TheVariants.{Entry}
use Rattle.ground.specs.Meaning.{Meaning}
use Rattle.gate.specs.declared.column.State.TheVariants.{Free, Standing}
use Rattle.gate.specs.Column.{robot}
use Rattle.gate.specs.Scene.{Columns, robots, state_at}
use Rattle.gate.specs.Scene.{height_at as height_in}
use Rattle.plan.specs.Plan.{Action, Runs, Starts, Touches, height_at, line, no_action, runs}
use Rattle.plan.specs.Rules.{Joined, LevelFits, Loaded, OneColumn, Written}
use Rattle.plan.proofs.Searches.{decides_runs}
use Rattle.play.specs.Shown.{Holder}
use Rattle.play.specs.Shown.Holder.{by_running, by_ended}
use Rattle.play.proofs.Faces.{TwoColumns, robot_from}
use Rattle.play.proofs.Counts.{count_more, pigeons}
use Rattle.play.proofs.Plans.{Obeys, carries_on, goes_on, longer, starts_runs, two}
use Rattle.play.proofs.Site.{Shows}

-- what the gate asks before the action a, of the work w, begins
pub record Ready (m : Meaning) (s : SiteSettings) (a : Action) (w : Work) (xs : Columns) : Type 0 where
  pub joined : Joined m w a.from a.to
  pub loaded : Loaded w a.carry
  pub one_column : OneColumn w a.from a.to
  pub two_columns : TwoColumns w a.from a.to
  pub from_ground : a.from < m.columns
  pub to_ground : a.to < m.columns
  pub to_level : LevelFits s w a.to_height
  pub lasts : a.end ≡ a.start + duration_of s.times w a.carry
  pub written : Written w a.from_height a.to_height (height_in xs a.from) (height_in xs a.to)
  pub size : length xs ≡ m.columns
  pub stood : w ≢ Entry → state_at xs a.from ≡ Standing a.carry
  pub entry_free : w ≡ Entry → state_at xs a.from ≡ Free
  pub to_free : a.from ≢ a.to → state_at xs a.to ≡ Free
  pub room_left : w ≡ Entry → robots m xs < s.robots

module _ {m : Meaning} {s : SiteSettings} {plan : List Action} {targets : ℕ → ℕ} (ob : Obeys m s plan targets)
    {k t : ℕ} {xs : Columns} (sh : Shows m plan k t xs) (lk : k < length plan) (due : (line plan k).start ≡ t) where
  now_runs : Runs (line plan k) t
  now_runs = record { begun = omega arith; before_end = omega (arith, longer ob k lk) }

  in_plan : (i : ℕ) → i < k → i < length plan
  in_plan i l = omega (arith, sh.so_far)

  -- the robot stands at from, with what the action says
  stood_so : (line plan k).work ≢ Entry → state_at xs (line plan k).from ≡ Standing (line plan k).carry
  stood_so n =
      let (j, lj, e, f) = ob.rules.follows k lk n in
      let c : ℕ = (line plan k).from in
      sh.standing j c lj (record { no_leave = e.no_leave; when = e.when ∙ due; where_to = e.where_to })
      (λ i li st. omega (arith, ob.rules.zones i k t c (in_plan i li) lk (starts_runs ob i (in_plan i li) st) now_runs (inl st.where_from) (inl refl)))
      ∙ ap Standing f

  -- a column that the action does not start from is free
  unheld : (c : ℕ) → Touches (line plan k) c → (Starts (line plan k) t c → ⊥) → state_at xs c ≡ Free
  unheld c w n = go (sh.explained c)
    where
      go : (state_at xs c ≡ Free) ⊎ Holder plan k t c → state_at xs c ≡ Free
      go (inl e) = e
      go (inr (by_running i l r v)) = absurd (omega (arith, ob.rules.zones i k t c (in_plan i l) lk r now_runs v w))
      go (inr (by_ended i l e o)) = absurd (n (carries_on ob i k (in_plan i l) lk e now_runs w))

  -- a robot's column is the from of an action of the plan that runs now
  robot_line : (c : ℕ) → robot (state_at xs c) ≡ true → (i : ℕ) × (i < length plan) × Runs (line plan i) t × ((line plan i).from ≡ c)
  robot_line c r = go (sh.explained c)
    where
      go : (state_at xs c ≡ Free) ⊎ Holder plan k t c → (i : ℕ) × (i < length plan) × Runs (line plan i) t × ((line plan i).from ≡ c)
      go (inl e) = absurd (both_ways (robot (state_at xs c)) (ap robot e) r)
      go (inr (by_running i l q w)) =
          let a : Action = line plan i in (
            i,
            in_plan i l,
            q,
            robot_from a.work a.carry a.from a.to (a.end - t) c (ob.rules.one_column i (in_plan i l)) w (ap robot (sym (sh.running i c l q w)) ∙ r),
          )
      go (inr (by_ended i l e o)) =
          let (j, lj, st) = goes_on ob i (in_plan i l) e in
          (j, lj, starts_runs ob j lj st, st.where_from)

  -- so the robots, and one that enters, are no more than the actions that run
  room_so : (line plan k).work ≡ Entry → robots m xs < s.robots
  room_so e =
      let f : ℕ = (line plan k).from in
      let p : ℕ → Bool = λ c. robot (state_at xs c) in
      let q : ℕ → Bool = λ c. robot (state_at xs c) || eqb c f in
      let free : p f ≡ false = ap robot (unheld f (inl refl) (λ st. st.no_entry e)) in
      let more = count_more p q (λ c h. or_left (p c) (eqb c f) h) f free (or_right (p f) (eqb f f) (eq-eqb f f refl)) m.columns (ob.rules.on_scale k lk).from_ground in
      let most = pigeons (runs t) (λ b. b.from) no_action plan q m.columns
      (λ c l h. elim (or_cases (p c) (eqb c f) h) [
        | inl g ↦ let w = robot_line c g in (w.0, w.1, (decides_runs t (line plan w.0)).1 w.2, w.3)
        | inr g ↦ (k, lk, (decides_runs t (line plan k)).1 now_runs, sym (eqb-true c f g))
      ]) in
      omega (arith, more, most, ob.rules.limit t)

  -- heights by the plan are heights of the site
  level : (c : ℕ) → height_at plan (line plan k).start c ≡ height_in xs c
  level c = subst (λ (u : ℕ). height_at plan u c ≡ height_in xs c) (sym due) (omega (arith, sh.raised c))

  written_so : Written (line plan k).work (line plan k).from_height (line plan k).to_height (height_in xs (line plan k).from) (height_in xs (line plan k).to)
  written_so =
      subst (λ (x : ℕ). Written (line plan k).work (line plan k).from_height (line plan k).to_height (height_in xs (line plan k).from) x) (level (line plan k).to)
      (subst (λ (x : ℕ). Written (line plan k).work (line plan k).from_height (line plan k).to_height x (height_at plan (line plan k).start (line plan k).to)) (level (line plan k).from)
      (ob.rules.heights k lk))

  pub ready_so : Ready m s (line plan k) (line plan k).work xs
  ready_so =
      record {
        joined = ob.rules.joined k lk;
        loaded = ob.rules.loaded k lk;
        one_column = ob.rules.one_column k lk;
        two_columns = two ob k lk;
        from_ground = (ob.rules.on_scale k lk).from_ground;
        to_ground = (ob.rules.on_scale k lk).to_ground;
        to_level = (ob.rules.on_scale k lk).to_level;
        lasts = ob.rules.lasts k lk;
        written = written_so;
        size = sh.size;
        stood = stood_so;
        entry_free = λ e. unheld (line plan k).from (inl refl) (λ st. st.no_entry e);
        to_free = λ n. unheld (line plan k).to (inr refl) (λ st. n st.where_from);
        room_left = room_so;
      }
