-- Each test of judging decides its reason in words, so the first that holds settles a sheet. Assumes nothing.
use Rattle.std.proofs.Common.{◌≡◌, ℕ, suc, ◌-◌, ◌<◌, ◌≤◌, max, Bool, true, false, not, eqb, ltb, leb, ◌≢◌, ◌⊎◌, List, [], ◌∷◌, length, take, None, Decides, sym, refl, ap, ◌∙◌, subst, inl, inr, arith}
use Rattle.std.proofs.lemmas.Bool.{cases_Bool, cases_lt, lt-ltb, ltb-true, or_cases, or_left, or_right, true≢false}
use Rattle.std.proofs.lemmas.Bool.Decides.{Decides-and, Decides-eqb, Decides-like, Decides-ltb, Decides-not, Decides-or}
use Rattle.terms.specs.Durations.{SiteSettings}
use Rattle.terms.specs.Refusals.{Settles, Silent, first_of, from_on, told}
use Rattle.terms.specs.declared.refusal.Rule.TheVariants.{LeftBehind, LeftStanding, SpansCollide, TargetMissed}
use Rattle.terms.specs.declared.work.Work.{Work}
use Rattle.terms.specs.declared.work.Work.TheVariants.{Entry, Leave, Wait, Move, PickUp, Deliver}
use Rattle.terms.proofs.First.{Decide, decide_append, decide_on, first_settles}
use Rattle.terms.proofs.Tests.{decides_leb}
use Rattle.ground.specs.Meaning.{Meaning}
use Rattle.sheet.specs.View.{Records}
use Rattle.sheet.specs.declared.record.ActLine.{ActLine}
use Rattle.plan.specs.Judged.{Collide, InOrder, IsLeftStanding}
use Rattle.plan.specs.Lines.{written_action, line_tests}
use Rattle.plan.specs.Plan.{Action, Ends, Touches, carried, carry_after, end_column, ends, height_at, is_entry, is_leave, line, makespan, no_action, shares, some_of}
use Rattle.plan.specs.Reasons.{line_reasons}
use Rattle.plan.specs.Times.{Holds}
use Rattle.plan.specs.Rules.{Follows, Heights, Written, written_plan, target_of, written}
use Rattle.plan.proofs.Lined.{decides_alike, line_decides}
use Rattle.plan.proofs.Searches.{decides_carried, decides_ends, decides_no_entry, decides_no_leave, decides_some_of}
use Rattle.judge.specs.Judging.{collide, crowd, end_tests, falls, fits, from_somewhere, goes_on_from, heights_fit, judge_tests, latest_start, left_behind, left_standing, missed, overlap, sheet_tests, tests_at}
use Rattle.judge.specs.Reasons.{IsLeftBehind, end_reasons, judge_reasons, reasons_at, sheet_reasons}
use Rattle.judge.proofs.Left.{decides_left}

-- a time in both spans is at the later start, if anywhere
pub decides_overlap : (a b : Action) → Decides (overlap a b) ((t : ℕ) × Holds a.start a.end t × Holds b.start b.end t)
decides_overlap a b = (
  λ e. let h = ltb-true _ _ e in (max a.start b.start, (omega arith, omega arith), (omega arith, omega arith)),
  λ w. lt-ltb _ _ (omega arith),
)

pub decides_order : (above : List Action) (a : Action) → Decides (not (falls above a)) (InOrder above a)
decides_order above a = (there above, back above)
  where
    there : (xs : List Action) → not (falls xs a) ≡ true → InOrder xs a
    there xs e k n = go (cases_lt a.start (line xs k).start)
      where
        last : (line xs (length xs - 1)).start ≡ (line xs k).start
        last = let i : length xs - 1 ≡ k = omega arith in ap (λ (j : ℕ). (line xs j).start) i

        go : (a.start < (line xs k).start) ⊎ ((line xs k).start ≤ a.start) → (line xs k).start ≤ a.start
        go (inl g) = absurd (true≢false (sym e ∙ ap not (lt-ltb a.start (latest_start xs) (omega (arith, last)))))
        go (inr g) = g

    back : (xs : List Action) → InOrder xs a → not (falls xs a) ≡ true
    back [] o = ap not (no (cases_Bool (ltb a.start 0)))
      where
        no : (ltb a.start 0 ≡ true) ⊎ (ltb a.start 0 ≡ false) → ltb a.start 0 ≡ false
        no (inl e) = let h = ltb-true a.start 0 e in absurd (omega arith)
        no (inr e) = e
    back (x ∷ xs) o = go (cases_Bool (falls (x ∷ xs) a))
      where
        last : (line (x ∷ xs) (length (x ∷ xs) - 1)).start ≡ (line (x ∷ xs) (length xs)).start
        last = let i : length (x ∷ xs) - 1 ≡ length xs = omega arith in ap (λ (j : ℕ). (line (x ∷ xs) j).start) i

        go : (falls (x ∷ xs) a ≡ true) ⊎ (falls (x ∷ xs) a ≡ false) → not (falls (x ∷ xs) a) ≡ true
        go (inl e) = let h = ltb-true a.start (latest_start (x ∷ xs)) e in absurd (omega (arith, last, o (length xs) refl))
        go (inr e) = ap not e

decides_fits : (w : Work) (h k f o : ℕ) → Decides (fits w h k f o) (Written w h k f o)
decides_fits Entry h k f o = Decides-eqb k o
decides_fits Leave h k f o = Decides-eqb h f
decides_fits Wait h k f o = Decides-and (eqb h f) _ (Decides-eqb h f) (Decides-eqb k o)
decides_fits Move h k f o =
    Decides-and (eqb h f) _ (Decides-eqb h f)
    (Decides-and (eqb k o) _ (Decides-eqb k o) (Decides-and (leb k (suc h)) _ (decides_leb k (suc h)) (decides_leb h (suc k))))
decides_fits PickUp h k f o = Decides-and (eqb h f) _ (Decides-eqb h f) (Decides-and (eqb (suc k) o) _ (Decides-eqb (suc k) o) (Decides-eqb h k))
decides_fits Deliver h k f o = Decides-and (eqb h f) _ (Decides-eqb h f) (Decides-and (eqb k o) _ (Decides-eqb k o) (Decides-eqb h k))

pub decides_heights : (above : List Action) (a : Action) → Decides (heights_fit above a) (Heights above a)
decides_heights above a = decides_fits a.work a.from_height a.to_height (height_at above a.start a.from) (height_at above a.start a.to)

decides_shares : (a b : Action) → Decides (shares a b) ((c : ℕ) × Touches a c × Touches b c)
decides_shares a b =
    Decides-like (shares a b) there back
    (Decides-or (eqb a.from b.from) _ (Decides-eqb _ _)
    (Decides-or (eqb a.from b.to) _ (Decides-eqb _ _) (Decides-or (eqb a.to b.from) _ (Decides-eqb _ _) (Decides-eqb a.to b.to))))
  where
    there : (a.from ≡ b.from) ⊎ ((a.from ≡ b.to) ⊎ ((a.to ≡ b.from) ⊎ (a.to ≡ b.to))) → (c : ℕ) × Touches a c × Touches b c
    there (inl e) = (a.from, inl refl, inl (sym e))
    there (inr (inl e)) = (a.from, inl refl, inr (sym e))
    there (inr (inr (inl e))) = (a.to, inr refl, inl (sym e))
    there (inr (inr (inr e))) = (a.to, inr refl, inr (sym e))

    back : ((c : ℕ) × Touches a c × Touches b c) → (a.from ≡ b.from) ⊎ ((a.from ≡ b.to) ⊎ ((a.to ≡ b.from) ⊎ (a.to ≡ b.to)))
    back (c, inl e, inl f) = inl (e ∙ sym f)
    back (c, inl e, inr f) = inr (inl (e ∙ sym f))
    back (c, inr e, inl f) = inr (inr (inl (e ∙ sym f)))
    back (c, inr e, inr f) = inr (inr (inr (e ∙ sym f)))

pub decides_collide : (a b : Action) → Decides (collide a b) (Collide a b)
decides_collide a b =
    Decides-like (collide a b)
    (λ p. let (t, r, q) = p.0 in let (c, v, w) = p.1 in
    (t, c, record { begun = r.0; before_end = r.1 }, record { begun = q.0; before_end = q.1 }, v, w))
    (λ p. let (t, c, r, q, v, w) = p in ((t, (r.begun, r.before_end), (q.begun, q.before_end)), (c, v, w)))
    (Decides-and (overlap a b) (shares a b) (decides_overlap a b) (decides_shares a b))

decides_goes_on : (a b : Action) → Decides (goes_on_from a b) (Ends b a.start a.from × (carry_after b ≡ a.carry))
decides_goes_on a b = Decides-and (ends a.start a.from b) _ (decides_ends a.start a.from b) (decides_alike (carry_after b) a.carry)

pub decides_follows : (above : List Action) (a : Action) → Decides (from_somewhere above a) (a.work ≢ Entry → Follows above (length above) a)
decides_follows above a =
    let all = decides_some_of (goes_on_from a) (λ b. Ends b a.start a.from × (carry_after b ≡ a.carry)) no_action (decides_goes_on a) above in (
      λ e n. let w = all.0 (later n (or_cases (is_entry a.work) (some_of (goes_on_from a) above) e)) in (w.0, w.1, w.2.0, w.2.1),
      λ f. go f (cases_Bool (is_entry a.work)) (λ w. all.1 (w.0, w.1, (w.2, w.3))),
    )
  where
    later : a.work ≢ Entry → (is_entry a.work ≡ true) ⊎ (some_of (goes_on_from a) above ≡ true) → some_of (goes_on_from a) above ≡ true
    later n (inl e) = absurd (true≢false (sym ((decides_no_entry a.work).1 n) ∙ ap not e))
    later n (inr e) = e

    go : (a.work ≢ Entry → Follows above (length above) a) → (is_entry a.work ≡ true) ⊎ (is_entry a.work ≡ false)
        → (Follows above (length above) a → some_of (goes_on_from a) above ≡ true) → from_somewhere above a ≡ true
    go f (inl e) found = or_left (is_entry a.work) (some_of (goes_on_from a) above) e
    go f (inr e) found = or_right (is_entry a.work) (some_of (goes_on_from a) above) (found (f ((decides_no_entry a.work).0 (ap not e))))

pub decides_behind : (plan : List Action) (a : Action) → Decides (left_behind plan a) (IsLeftBehind plan a)
decides_behind plan a =
    Decides-and (not (is_leave a.work)) _ (decides_no_leave a.work) (Decides-not (carried plan a.end (end_column a)) (decides_carried plan a.end (end_column a)))

decides_falls : (above : List Action) (a : Action) → Decides (falls above a) (InOrder above a → ⊥)
decides_falls above a = flip (falls above a) (decides_order above a)
  where
    flip : {P : Type 0} (b : Bool) → Decides (not b) P → Decides b (P → ⊥)
    flip true d = (λ _ p. true≢false (sym (d.1 p)), λ _. refl)
    flip false d = (λ e. absurd (true≢false (sym e)), λ n. absurd (n (d.0 refl)))

judge_decides : (m : Meaning) (s : SiteSettings) (above : List Action) (a : Action) → Decide (judge_tests m s above a) (judge_reasons m s above a)
unfolding judge_tests judge_reasons
judge_decides m s above a = (
  decides_falls above a,
  refl,
  decide_append (from_on (λ c. (left_standing above a.start c, told LeftStanding a.line c) ∷ []) 0 m.columns) _
      (from_on (λ c. record { holds = IsLeftStanding above a.start c; tells = told LeftStanding a.line c } ∷ []) 0 m.columns) _
      (decide_on (λ c. (left_standing above a.start c, told LeftStanding a.line c) ∷ []) (λ c. record { holds = IsLeftStanding above a.start c; tells = told LeftStanding a.line c } ∷ [])
      (λ c. (decides_left above a.start c, refl, tt)) 0 m.columns) (
        Decides-not (heights_fit above a) (decides_heights above a),
        refl,
        decide_append (from_on (λ i. (collide (line above i) a, told SpansCollide a.line (line above i).line) ∷ []) 0 (length above)) _
            (from_on (λ i. record { holds = Collide (line above i) a; tells = told SpansCollide a.line (line above i).line } ∷ []) 0 (length above)) _
            (decide_on (λ i. (collide (line above i) a, told SpansCollide a.line (line above i).line) ∷ []) (λ i. record { holds = Collide (line above i) a; tells = told SpansCollide a.line (line above i).line } ∷ [])
            (λ i. (decides_collide (line above i) a, refl, tt)) 0 (length above)) (
              Decides-not (from_somewhere above a) (decides_follows above a),
              refl,
              (Decides-ltb s.robots (crowd above a), refl, tt),
            ),
      ),
)

end_decides : (m : Meaning) (plan : List Action) (targets : ℕ → ℕ) (lines : ℕ) → Decide (end_tests m plan targets lines) (end_reasons m plan targets lines)
unfolding end_tests end_reasons
end_decides m plan targets lines =
    decide_append (from_on (λ i. (left_behind plan (line plan i), told LeftBehind (line plan i).line 0) ∷ []) 0 (length plan)) _
    (from_on (λ i. record { holds = IsLeftBehind plan (line plan i); tells = told LeftBehind (line plan i).line 0 } ∷ []) 0 (length plan)) _
    (decide_on (λ i. (left_behind plan (line plan i), told LeftBehind (line plan i).line 0) ∷ []) (λ i. record { holds = IsLeftBehind plan (line plan i); tells = told LeftBehind (line plan i).line 0 } ∷ [])
    (λ i. (decides_behind plan (line plan i), refl, tt)) 0 (length plan))
    (decide_on (λ c. (missed plan targets (makespan plan) c, told TargetMissed lines c) ∷ []) (λ c. record { holds = height_at plan (makespan plan) c ≡ targets c → ⊥; tells = told TargetMissed lines c } ∷ [])
    (λ c. (Decides-not (eqb (height_at plan (makespan plan) c) (targets c)) (Decides-eqb _ _), refl, tt)) 0 m.columns)

at_decides : (m : Meaning) (s : SiteSettings) (acts : List ActLine) (k : ℕ) → Decide (tests_at m s acts k) (reasons_at m s acts k)
at_decides m s acts k =
    decide_append (line_tests m s (written acts k)) (judge_tests m s (take k (written_plan acts)) (written_action (written acts k)))
    (line_reasons m s (written acts k)) (judge_reasons m s (take k (written_plan acts)) (written_action (written acts k)))
    (line_decides m s (written acts k)) (judge_decides m s (take k (written_plan acts)) (written_action (written acts k)))

-- a line that is not refused breaks no rule
pub at_silent : (m : Meaning) (s : SiteSettings) (acts : List ActLine) (k : ℕ) → first_of (tests_at m s acts k) ≡ None → Silent (reasons_at m s acts k)
at_silent m s acts k e = subst (Settles (reasons_at m s acts k)) e (first_settles (tests_at m s acts k) (reasons_at m s acts k) (at_decides m s acts k))

pub sheet_settles : (m : Meaning) (s : SiteSettings) (r : Records) → Settles (sheet_reasons m s r) (first_of (sheet_tests m s r))
sheet_settles m s r =
    first_settles (sheet_tests m s r) (sheet_reasons m s r)
    (decide_append (from_on (tests_at m s r.acts) 0 (length r.acts)) _ (from_on (reasons_at m s r.acts) 0 (length r.acts)) _
    (decide_on (tests_at m s r.acts) (reasons_at m s r.acts) (at_decides m s r.acts) 0 (length r.acts))
    (end_decides m (written_plan r.acts) (target_of r.targets) r.lines))
