-- No rule of judging is broken exactly where the rules hold. Assumes nothing.
use Rattle.std.proofs.Common.{◌≡◌, ℕ, ◌<◌, not, eqb, ◌≢◌, List, [], ◌∷◌, ◌++◌, length, take, sym, subst, inl, inr, arith}
use Rattle.std.proofs.lemmas.List.{get_or-map, length-map}
use Rattle.std.proofs.lemmas.Bool.{cases_lt}
use Rattle.std.proofs.lemmas.Bool.Decides.{Decides-eqb}
use Rattle.terms.specs.Durations.{SiteSettings}
use Rattle.terms.specs.Refusals.{Silent, from_on, told}
use Rattle.terms.specs.declared.refusal.Rule.TheVariants.{LeftBehind, LeftStanding, SpansCollide, TargetMissed}
use Rattle.terms.specs.declared.work.Work.TheVariants.{Leave}
use Rattle.ground.specs.Meaning.{Meaning}
use Rattle.sheet.specs.View.{Records}
use Rattle.sheet.specs.declared.record.ActLine.{ActLine}
use Rattle.plan.specs.Judged.{Collide, Judged, IsLeftStanding, Meets, Timed}
use Rattle.plan.specs.Lines.{written_action}
use Rattle.plan.specs.Plan.{Action, carried, end_column, height_at, line, makespan, no_action}
use Rattle.plan.specs.Reasons.{line_reasons}
use Rattle.plan.specs.Stands.{StandsFor}
use Rattle.plan.proofs.Standing.{stands}
use Rattle.plan.specs.Rules.{Carried, Loaded, Marks, OneColumn, SheetRules, no_act, written_plan, target_of, written}
use Rattle.plan.proofs.Formed.{formed}
use Rattle.plan.proofs.Judged.{rules_as_judged}
use Rattle.plan.proofs.Lined.{kept}
use Rattle.plan.proofs.Searches.{decides_carried, stable}
use Rattle.judge.specs.Judging.{crowd, from_somewhere, falls, heights_fit}
use Rattle.judge.specs.Reasons.{IsLeftBehind, end_reasons, judge_reasons, reasons_at, sheet_reasons}
use Rattle.judge.proofs.Reasoned.{decides_follows, decides_heights, decides_order}
use Rattle.judge.proofs.Silence.{silent_at, silent_both, silent_on, silent_parts}

module _ (m : Meaning) (s : SiteSettings) where
  -- one line
  module _ (above : List Action) (l : ActLine) where
    abbrev a : Action
    a = written_action l

    pub line_meets : Silent (line_reasons m s l ++ judge_reasons m s above a) → Marks l × Meets m s above a
    unfolding judge_reasons
    line_meets q =
        let k = kept m s l q.0 q.1.0 q.1.1.0 q.1.1.1.0 in
        let j = q.1.1.1.1 in
        let p = silent_parts (from_on (λ c. record { holds = IsLeftStanding above a.start c; tells = told LeftStanding a.line c } ∷ []) 0 m.columns) _ j.1 in
        let z = silent_parts (from_on (λ i. record { holds = Collide (line above i) a; tells = told SpansCollide a.line (line above i).line } ∷ []) 0 (length above)) _ p.1.1 in (
          k.marks,
          record {
            on_scale = k.on_scale;
            joined = k.joined;
            lasts = k.lasts;
            in_order = stable (not (falls above a)) (decides_order above a) j.0;
            none_left = λ c b. (silent_at (λ c. record { holds = IsLeftStanding above a.start c; tells = told LeftStanding a.line c } ∷ []) m.columns 0 p.0 c (omega arith) (omega arith)).0;
            heights = stable (heights_fit above a) (decides_heights above a) p.1.0;
            apart = λ i b. (silent_at (λ i. record { holds = Collide (line above i) a; tells = told SpansCollide a.line (line above i).line } ∷ []) (length above) 0 z.0 i (omega arith) (omega arith)).0;
            follows = stable (from_somewhere above a) (decides_follows above a) z.1.0;
            limit = elim (cases_lt s.robots (crowd above a)) [ inl g ↦ absurd (z.1.1.0 g) | inr g ↦ g ];
          },
        )

    pub meets_line : Marks l → Meets m s above a → Silent (line_reasons m s l ++ judge_reasons m s above a)
    unfolding judge_reasons
    meets_line k w = (
      λ n. n k,
      (
        λ n. n w.on_scale,
        (
          λ n. n w.joined,
          (
            λ n. n w.lasts,
            (
              λ n. n w.in_order,
              silent_both (from_on (λ c. record { holds = IsLeftStanding above a.start c; tells = told LeftStanding a.line c } ∷ []) 0 m.columns) _
                  (silent_on (λ c. record { holds = IsLeftStanding above a.start c; tells = told LeftStanding a.line c } ∷ []) m.columns 0 (λ c _ b. (w.none_left c (omega arith), tt))) (
                    λ n. n w.heights,
                    silent_both (from_on (λ i. record { holds = Collide (line above i) a; tells = told SpansCollide a.line (line above i).line } ∷ []) 0 (length above)) _
                        (silent_on (λ i. record { holds = Collide (line above i) a; tells = told SpansCollide a.line (line above i).line } ∷ []) (length above) 0 (λ i _ b. (w.apart i (omega arith), tt)))
                        (λ n. n w.follows, (λ g. let h = w.limit in omega arith, tt)),
                  ),
            ),
          ),
        ),
      ),
    )

  -- the sheet's end
  module _ (plan : List Action) (targets : ℕ → ℕ) (lines : ℕ) where
    abbrev CarriedOn : Type 0
    CarriedOn = (i : ℕ) → i < length plan → (line plan i).work ≢ Leave → Carried plan (line plan i).end (end_column (line plan i))

    abbrev Reached : Type 0
    Reached = (c : ℕ) → c < m.columns → height_at plan (makespan plan) c ≡ targets c

    pub end_meets : Silent (end_reasons m plan targets lines) → CarriedOn × Reached
    unfolding end_reasons
    end_meets q =
        let p = silent_parts (from_on (λ i. record { holds = IsLeftBehind plan (line plan i); tells = told LeftBehind (line plan i).line 0 } ∷ []) 0 (length plan)) _ q in (
          λ i l n. stable (carried plan (line plan i).end (end_column (line plan i))) (decides_carried plan (line plan i).end (end_column (line plan i)))
              (λ out. (silent_at (λ i. record { holds = IsLeftBehind plan (line plan i); tells = told LeftBehind (line plan i).line 0 } ∷ []) (length plan) 0 p.0 i (omega arith) (omega arith)).0 (n, out)),
          λ c l. stable (eqb (height_at plan (makespan plan) c) (targets c)) (Decides-eqb _ _)
              (silent_at (λ c. record { holds = height_at plan (makespan plan) c ≡ targets c → ⊥; tells = told TargetMissed lines c } ∷ []) m.columns 0 p.1 c (omega arith) (omega arith)).0,
        )

    pub meets_end : CarriedOn → Reached → Silent (end_reasons m plan targets lines)
    unfolding end_reasons
    meets_end on there =
        silent_both (from_on (λ i. record { holds = IsLeftBehind plan (line plan i); tells = told LeftBehind (line plan i).line 0 } ∷ []) 0 (length plan)) _
        (silent_on (λ i. record { holds = IsLeftBehind plan (line plan i); tells = told LeftBehind (line plan i).line 0 } ∷ []) (length plan) 0 (λ i _ b. (λ w. w.1 (on i (omega arith) w.0), tt)))
        (silent_on (λ c. record { holds = height_at plan (makespan plan) c ≡ targets c → ⊥; tells = told TargetMissed lines c } ∷ []) m.columns 0 (λ c _ b. (λ n. n (there c (omega arith)), tt)))

  -- the sheet
  module _ (r : Records) (timed : Timed s) where
    abbrev acts : List ActLine
    acts = r.acts

    abbrev plan : List Action
    plan = written_plan r.acts

    action_at : (k : ℕ) → k < length acts → line plan k ≡ written_action (written acts k)
    action_at k l = get_or-map written_action acts k no_act no_action l

    size : length plan ≡ length acts
    size = length-map acts written_action

    pub silent_rules : Silent (sheet_reasons m s r) → SheetRules m s r
    silent_rules q =
        let p = silent_parts (from_on (reasons_at m s acts) 0 (length acts)) _ q in
        let each : (k : ℕ) → k < length acts → Marks (written acts k) × Meets m s (take k plan) (written_action (written acts k)) =
        λ k l. line_meets (take k plan) (written acts k) (silent_at (reasons_at m s acts) (length acts) 0 p.0 k (omega arith) (omega arith)) in
        let e = end_meets plan (target_of r.targets) r.lines p.1 in
        let j : Judged m s plan (target_of r.targets) = record {
          one_column = λ k l. let h : k < length acts = omega (arith, size) in
              subst (λ (x : Action). OneColumn x.work x.from x.to) (sym (action_at k h)) (formed (written acts k) (each k h).0).0;
          loaded = λ k l. let h : k < length acts = omega (arith, size) in
              subst (λ (x : Action). Loaded x.work x.carry) (sym (action_at k h)) (formed (written acts k) (each k h).0).1;
          meets = λ k l. let h : k < length acts = omega (arith, size) in subst (λ (x : Action). Meets m s (take k plan) x) (sym (action_at k h)) (each k h).1;
          carried_on = e.0;
          reached = e.1;
        } in
        record {
          marks = λ i l. (each i l).0;
          stands = λ i l. subst (StandsFor (written acts i)) (sym (action_at i l)) (stands (written acts i) (each i l).0);
          rules = (rules_as_judged m s plan (target_of r.targets) timed).0 j;
        }

    pub rules_silent : SheetRules m s r → Silent (sheet_reasons m s r)
    rules_silent ru =
        let j = (rules_as_judged m s plan (target_of r.targets) timed).1 ru.rules in
        silent_both (from_on (reasons_at m s acts) 0 (length acts)) _
        (silent_on (reasons_at m s acts) (length acts) 0
        (λ k _ b. let h : k < length acts = omega arith in
        meets_line (take k plan) (written acts k) (ru.marks k h) (subst (λ (x : Action). Meets m s (take k plan) x) (action_at k h) (j.meets k (omega (arith, size))))))
        (meets_end plan (target_of r.targets) r.lines j.carried_on j.reached)
