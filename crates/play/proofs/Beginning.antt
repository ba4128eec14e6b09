-- An action begins, its columns show it: the site shows one action more. Assumes nothing.
use Rattle.std.proofs.Common.{◌≡◌, ℕ, suc, ◌<◌, ◌⊎◌, List, length, sym, ap, ◌∙◌, subst, inl, inr, arith}
use Rattle.std.proofs.lemmas.Bool.{cases_lt}
use Rattle.terms.specs.Durations.{SiteSettings}
use Rattle.ground.specs.Meaning.{Meaning}
use Rattle.gate.specs.declared.column.State.TheVariants.{Free, Standing}
use Rattle.gate.specs.Scene.{Columns, state_at}
use Rattle.gate.specs.Scene.{height_at as height_in}
use Rattle.plan.specs.Plan.{Action, Ends, Runs, Touches, carry_after, line}
use Rattle.play.specs.Shown.{Holder, NoneStarts, shown}
use Rattle.play.specs.Shown.Holder.{by_running, by_ended}
use Rattle.play.proofs.Faces.{Fits}
use Rattle.play.proofs.Columns.{Placed, touches_or_not}
use Rattle.play.proofs.Plans.{Obeys, carries_on, longer}
use Rattle.play.proofs.Site.{Shows}

module _ {m : Meaning} {s : SiteSettings} {plan : List Action} {targets : ℕ → ℕ} (ob : Obeys m s plan targets)
    {k t : ℕ} {xs ys : Columns} (sh : Shows m plan k t xs) (lk : k < length plan) (now : (line plan k).start ≡ t)
    (placed : Placed (line plan k) t xs ys) (fit : Fits (line plan k).work (height_in xs (line plan k).to)) where
  runs_now : Runs (line plan k) t
  runs_now = record { begun = omega arith; before_end = omega (arith, longer ob k lk) }

  in_plan : (i : ℕ) → i < k → i < length plan
  in_plan i l = omega (arith, sh.so_far)

  -- what runs already has no column of the action
  apart : (i c : ℕ) → i < k → Runs (line plan i) t → Touches (line plan i) c → Touches (line plan k) c → ⊥
  apart i c l r w v = omega (arith, ob.rules.zones i k t c (in_plan i l) lk r runs_now w v)

  or_new : (i : ℕ) → i < suc k → (i < k) ⊎ (i ≡ k)
  or_new i l = elim (cases_lt i k) [ inl b ↦ inl b | inr g ↦ inr (omega arith) ]

  running_then : (i c : ℕ) → i < suc k → Runs (line plan i) t → Touches (line plan i) c → state_at ys c ≡ shown (line plan i) t c
  running_then i c l r w =
      elim (or_new i l) [
        | inl b ↦ placed.there c (apart i c b r w) ∙ sh.running i c b r w
        | inr e ↦ subst (λ (x : ℕ). Touches (line plan x) c → state_at ys c ≡ shown (line plan x) t c) (sym e) (placed.here c) w
      ]

  standing_then : (i c : ℕ) → i < suc k → Ends (line plan i) t c → NoneStarts plan (suc k) t c → state_at ys c ≡ Standing (carry_after (line plan i))
  standing_then i c l e n =
      elim (or_new i l) [
        | inl b ↦
            placed.there c (λ w. n k (omega arith) (carries_on ob i k (in_plan i b) lk e runs_now w))
            ∙ sh.standing i c b e (λ j lj. n j (omega arith))
        | inr q ↦ absurd (omega (arith, e.when, ap (λ (x : ℕ). (line plan x).end) q, longer ob k lk))
      ]

  explained_then : (c : ℕ) → (state_at ys c ≡ Free) ⊎ Holder plan (suc k) t c
  explained_then c = elim (touches_or_not (line plan k) c) [ inl w ↦ inr (by_running k (omega arith) runs_now w) | inr n ↦ go n (sh.explained c) ]
    where
      go : (Touches (line plan k) c → ⊥) → (state_at xs c ≡ Free) ⊎ Holder plan k t c → (state_at ys c ≡ Free) ⊎ Holder plan (suc k) t c
      go n (inl e) = inl (placed.there c n ∙ e)
      go n (inr (by_running i l r w)) = inr (by_running i (omega arith) r w)
      go n (inr (by_ended i l e o)) =
          inr (by_ended i (omega arith) e (λ j lj st. elim (or_new j lj) [
            | inl b ↦ o j b st
            | inr q ↦ n (inl (subst (λ (x : ℕ). (line plan x).from ≡ c) q st.where_from))
          ]))

  fitting_then : (i : ℕ) → i < suc k → Runs (line plan i) t → Fits (line plan i).work (height_in ys (line plan i).to)
  fitting_then i l r =
      subst (Fits (line plan i).work) (sym (placed.heights (line plan i).to))
      (elim (or_new i l) [
        | inl b ↦ sh.fitting i b r
        | inr q ↦ subst (λ (x : ℕ). Fits (line plan x).work (height_in xs (line plan x).to)) (sym q) fit
      ])

  pub shows_begun : Shows m plan (suc k) t ys
  shows_begun =
      record {
        size = placed.size ∙ sh.size;
        so_far = omega arith;
        begun = λ i l. elim (or_new i l) [ inl b ↦ sh.begun i b | inr q ↦ omega (arith, ap (λ (x : ℕ). (line plan x).start) q) ];
        coming = λ i g l. sh.coming i (omega arith) l;
        running = running_then;
        standing = standing_then;
        explained = explained_then;
        raised = λ c. omega (arith, placed.heights c, sh.raised c);
        fitting = fitting_then;
      }
