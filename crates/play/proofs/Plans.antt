-- What follows from the rules for the actions of a plan alone: who carries on an action that has ended. Assumes nothing.
use Rattle.std.proofs.Common.{◌≡◌, ℕ, suc, ◌<◌, true, ◌≢◌, List, length, sym, ◌∙◌, subst, inl, arith}
use Rattle.std.proofs.lemmas.Bool.{both_ways}
use Rattle.terms.specs.Durations.{SiteSettings}
use Rattle.terms.specs.declared.work.Work.{Work}
use Rattle.terms.specs.declared.work.Work.TheVariants.{Entry, Leave, Wait, Move, PickUp, Deliver}
use Rattle.ground.specs.Meaning.{Meaning, Lawful}
use Rattle.plan.specs.Plan.{Action, Ends, Runs, Starts, Touches, line}
use Rattle.plan.specs.Rules.{Joined, Rules}
use Rattle.play.specs.Stands.{Usable}
use Rattle.play.proofs.Faces.{TwoColumns, end_touches}

-- a plan that keeps the rules, on a lawful ground, under usable settings
pub record Obeys (m : Meaning) (s : SiteSettings) (plan : List Action) (targets : ℕ → ℕ) : Type 0 where
  pub law : Lawful m
  pub usable : Usable s
  pub rules : Rules m s plan targets

pub not_same : {m : Meaning} → Lawful m → (f o : ℕ) → m.linked f o ≡ true → f ≢ o
not_same {m} law f o e q = both_ways (m.linked f f) (law.no_loop f) (subst (λ (x : ℕ). m.linked f x ≡ true) (sym q) e)

two_columns : {m : Meaning} → Lawful m → (w : Work) (f o : ℕ) → Joined m w f o → TwoColumns w f o
two_columns law Entry f o j = tt
two_columns law Leave f o j = tt
two_columns law Wait f o j = tt
two_columns law Move f o j = not_same law f o j
two_columns law PickUp f o j = not_same law f o j.0
two_columns law Deliver f o j = not_same law f o j.0

pub ended_touches : {a : Action} {t c : ℕ} → Ends a t c → Touches a c
ended_touches {a} e = subst (Touches a) e.where_to (end_touches a.work a.from a.to)

module _ {m : Meaning} {s : SiteSettings} {plan : List Action} {targets : ℕ → ℕ} (ob : Obeys m s plan targets) where
  pub longer : (i : ℕ) → i < length plan → (line plan i).start < (line plan i).end
  longer i l = omega (arith, ob.usable.timed (line plan i).work (line plan i).carry, ob.rules.lasts i l)

  pub two : (i : ℕ) → i < length plan → TwoColumns (line plan i).work (line plan i).from (line plan i).to
  two i l = two_columns ob.law (line plan i).work (line plan i).from (line plan i).to (ob.rules.joined i l)

  pub starts_runs : (j : ℕ) {t c : ℕ} → j < length plan → Starts (line plan j) t c → Runs (line plan j) t
  starts_runs j l st = record { begun = omega (arith, st.when); before_end = omega (arith, st.when, longer j l) }

  pub ended_ran : (i : ℕ) {t c : ℕ} → i < length plan → Ends (line plan i) (suc t) c → Runs (line plan i) t
  ended_ran i l e = record { begun = omega (arith, longer i l, e.when); before_end = omega (arith, e.when) }

  -- an action that has ended is carried on
  pub goes_on : (i : ℕ) {t c : ℕ} → i < length plan → Ends (line plan i) t c → (j : ℕ) × (j < length plan) × Starts (line plan j) t c
  goes_on i l e =
      let (j, lj, st) = ob.rules.carried_on i l e.no_leave in
      (j, lj, record { no_entry = st.no_entry; when = st.when ∙ e.when; where_from = st.where_from ∙ e.where_to })

  -- by whatever runs at its end column then
  pub carries_on : (i j : ℕ) {t c : ℕ} → i < length plan → j < length plan → Ends (line plan i) t c → Runs (line plan j) t → Touches (line plan j) c
      → Starts (line plan j) t c
  carries_on i j {t} {c} li lj e r w =
      let (k, lk, st) = goes_on i li e in
      let same : k ≡ j = ob.rules.zones k j t c lk lj (starts_runs k lk st) r (inl st.where_from) w in
      subst (λ (x : ℕ). Starts (line plan x) t c) same st
