-- What comes of playing a job's plan, as it is printed. Assumes nothing.
use Rattle.std.proofs.Common.{◌≡◌, ℕ, ◌<◌, List, ◌++◌, map, Some, None, codes, sym, ◌∙◌, subst, arith}
use Rattle.std.specs.List.{range_with_len}
use Rattle.std.proofs.lemmas.List.FromFn.{fill_by_all, get_or-map-range_with_len, length-map-range_with_len}
use Rattle.terms.specs.Durations.{SiteSettings}
use Rattle.terms.specs.Refusals.{Silent, Told, told}
use Rattle.terms.specs.declared.refusal.Rule.TheVariants.{NoWayHome}
use Rattle.gate.specs.Scene.{height_at}
use Rattle.plan.specs.Plan.{line}
use Rattle.plan.specs.Rules.{target_of}
use Rattle.sheet.specs.View.{records_in}
use Rattle.play.specs.Play.{Outcome}
use Rattle.play.specs.Stands.{Comes}
use Rattle.draw.specs.Rows.{text}
use Rattle.judge.specs.Figures.{Figures}
use Rattle.job.specs.Jobs.{order, sheet_in}
use Rattle.job.specs.Replies.{ground_of, heights, plan_in, row, told_row}
use Rattle.job.specs.Words.{Verdict, job_reasons, targets_in}

same_on : (f g : ℕ → ℕ) (n : ℕ) → ((c : ℕ) → c < n → f c ≡ g c) → map f (range_with_len 0 n) ≡ map g (range_with_len 0 n)
same_on f g n h =
    fill_by_all g (map f (range_with_len 0 n)) n 0 (length-map-range_with_len f 0 n) (λ k l. get_or-map-range_with_len f 0 n k k 0 l (omega arith) ∙ h k l)

module _ (input : List ℕ) (s : SiteSettings) where
  abbrev targets : ℕ → ℕ
  targets = target_of (records_in (sheet_in input)).targets

  abbrev Came : Outcome → Type 0
  Came o = Comes (ground_of (order input)) s (plan_in input) targets o

  -- a plan that was stopped is held
  pub is_held : (o : Outcome) (t : Told) → Silent (job_reasons input) → Came o → o.answer ≡ Some t → Verdict input (told_row (codes "HELD") t)
  is_held o t silent (Comes.stops i c v low none d) e =
      let et : told NoWayHome (line (plan_in input) i).line c ≡ t = cc in
      subst (λ (x : Told). Verdict input (told_row (codes "HELD") x)) et (Verdict.held silent i c low none)
  is_held o t silent (Comes.ends v none free high) e = let z : ◌≡◌ {A = ℕ} 0 1 = cc in absurd (omega arith)

  -- one that was not has the targets as its heights
  pub is_accepted : (o : Outcome) (m c k : ℕ) → Silent (job_reasons input) → Figures (plan_in input) m c k → Came o → o.answer ≡ None
      → Verdict input (row (codes "OK  ") m c k ++ text (heights (ground_of (order input)).columns o.site))
  is_accepted o m c k silent f (Comes.stops i d v low none w) e = let z : ◌≡◌ {A = ℕ} 0 1 = cc in absurd (omega arith)
  is_accepted o m c k silent f (Comes.ends v none free high) e =
      let same : heights (ground_of (order input)).columns v ≡ targets_in input = same_on (height_at v.columns) targets (ground_of (order input)).columns high in
      subst (λ (l : List ℕ). Verdict input (row (codes "OK  ") m c k ++ text l)) (sym same) (Verdict.accepted silent none m c k f)
