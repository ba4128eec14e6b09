-- The lowest column at which a robot was left standing: those that ended before the last start are carried on already.
-- Assumes nothing.
use Rattle.std.proofs.Common.{◌≡◌, ℕ, ◌<◌, ◌≤◌, Bool, true, false, not, eqb, ltb, leb, ◌≢◌, List, [], ◌∷◌, length, Some, None, Decides, Option, refl, subst, inl, inr, arith}
use Rattle.std.specs.Option.{option_map}
use Rattle.std.proofs.lemmas.Bool.{cases_Bool, cases_lt}
use Rattle.std.proofs.lemmas.Bool.Decides.{Decides-and, Decides-eqb, Decides-like, Decides-ltb, Decides-not}
use Rattle.terms.proofs.Tests.{decides_leb}
use Rattle.terms.specs.Refusals.{first_of, from_on, told}
use Rattle.terms.specs.declared.refusal.Rule.TheVariants.{LeftStanding}
use Rattle.terms.specs.declared.work.Work.TheVariants.{Leave}
use Rattle.ground.specs.Meaning.{Meaning}
use Rattle.plan.specs.Judged.{IsLeftStanding}
use Rattle.plan.specs.Plan.{Action, carried, end_column, is_leave, line, no_action}
use Rattle.plan.specs.Rules.{Carried}
use Rattle.plan.proofs.Searches.{decides_carried, decides_no_leave, decides_some_of}
use Rattle.judge.specs.Finding.{Lowest, Settled, left_between}
use Rattle.judge.specs.Judging.{latest_start, left_by, left_standing}
use Rattle.judge.proofs.Chains.{lowest_from, nothing_from}

decides_left_by : (above : List Action) (t c : ℕ) (b : Action)
    → Decides (left_by above t c b) ((b.work ≢ Leave) × ((b.end < t) × ((end_column b ≡ c) × (Carried above b.end c → ⊥))))
decides_left_by above t c b =
    Decides-and (not (is_leave b.work)) _ (decides_no_leave b.work)
    (Decides-and (ltb b.end t) _ (Decides-ltb _ _)
    (Decides-and (eqb (end_column b) c) _ (Decides-eqb _ _) (Decides-not (carried above b.end c) (decides_carried above b.end c))))

decides_between : (above : List Action) (s t : ℕ) (b : Action)
    → Decides (left_between above s t b) ((b.work ≢ Leave) × ((s ≤ b.end) × ((b.end < t) × (Carried above b.end (end_column b) → ⊥))))
decides_between above s t b =
    Decides-and (not (is_leave b.work)) _ (decides_no_leave b.work)
    (Decides-and (leb s b.end) _ (decides_leb _ _)
    (Decides-and (ltb b.end t) _ (Decides-ltb _ _) (Decides-not (carried above b.end (end_column b)) (decides_carried above b.end (end_column b)))))

pub decides_left : (above : List Action) (t c : ℕ) → Decides (left_standing above t c) (IsLeftStanding above t c)
decides_left above t c =
    Decides-like (left_standing above t c)
    (λ w. (w.0, w.1, w.2.0, w.2.1.0, w.2.1.1.0, w.2.1.1.1))
    (λ w. (w.0, w.1, (w.2, (w.3, (w.4, w.5)))))
    (decides_some_of (left_by above t c) (λ b. (b.work ≢ Leave) × ((b.end < t) × ((end_column b ≡ c) × (Carried above b.end c → ⊥)))) no_action (decides_left_by above t c) above)

module _ (m : Meaning) (above : List Action) (t : ℕ) (so : Settled m above) where
  -- one that was left standing ended at the last start or later
  recent : (c : ℕ) → IsLeftStanding above t c → (i : ℕ) × (i < length above) × (left_between above (latest_start above) t (line above i) ≡ true) × (end_column (line above i) ≡ c)
  recent c (i, l, n, b, e, out) =
      let out' : Carried above (line above i).end (end_column (line above i)) → ⊥ = λ w. out (subst (λ (x : ℕ). Carried above (line above i).end x) e w) in
      let late : latest_start above ≤ (line above i).end =
      elim (cases_lt (line above i).end (latest_start above)) [ inl g ↦ absurd (out' (so.carried_on i l n g)) | inr g ↦ g ] in
      (i, l, (decides_between above (latest_start above) t (line above i)).1 (n, (late, (b, out'))), e)

  stood : (i : ℕ) → i < length above → left_between above (latest_start above) t (line above i) ≡ true → IsLeftStanding above t (end_column (line above i))
  stood i l y = let w = (decides_between above (latest_start above) t (line above i)).0 y in (i, l, w.0, w.1.1.0, refl, w.1.1.1)

  not_so : (b : Bool) → (b ≡ true → ⊥) → b ≡ false
  not_so b n = elim (cases_Bool b) [ inl e ↦ absurd (n e) | inr e ↦ e ]

  pub left_first : (number : ℕ) (o : Option ℕ) → Lowest (left_between above (latest_start above) t) above o
      → first_of (from_on (λ c. (left_standing above t c, told LeftStanding number c) ∷ []) 0 m.columns) ≡ option_map (told LeftStanding number) o
  left_first number None low =
      nothing_from (left_standing above t) (told LeftStanding number) m.columns 0
      (λ c _ _. not_so (left_standing above t c) (λ y. let (i, l, p, _) = recent c ((decides_left above t c).0 y) in low i l p))
  left_first number (Some c) low =
      let (i, l, p, e) = low.0 in
      lowest_from (left_standing above t) (told LeftStanding number) m.columns 0 c (omega arith) (omega (arith, so.grounded i l))
      ((decides_left above t c).1 (subst (IsLeftStanding above t) e (stood i l p)))
      (λ d _ b. not_so (left_standing above t d) (λ y. let (k, lk, pk, ek) = recent d ((decides_left above t d).0 y) in omega (arith, low.1 k lk pk)))
