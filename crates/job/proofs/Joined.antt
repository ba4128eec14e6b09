-- A job whose line is read and whose ground and settings are made is refused as its sheet is. Assumes nothing.
use Rattle.std.proofs.Common.{◌≡◌, ℕ, List, Some, None, Ok, Option, Result, sym, ap, ◌∙◌}
use Rattle.terms.specs.Durations.{SiteSettings}
use Rattle.terms.specs.Ranges.{settings_from}
use Rattle.terms.specs.Refusals.{Told, first_of, or_else}
use Rattle.ground.specs.Meaning.{Meaning}
use Rattle.ground.specs.Squared.{squared}
use Rattle.gate.specs.Scene.{opened}
use Rattle.judge.specs.Judging.{judging_refusal}
use Rattle.job.specs.Replies.{order_site}
use Rattle.job.specs.Jobs.{job_refusal, making_refusal, order, order_tests, sheet_in, sheet_refusal}
use Rattle.job.specs.declared.order.Order.{Order}

module _ (input : List ℕ) where
  -- the line alone refuses
  pub line_refuses : (t : Told) → first_of (order_tests input) ≡ Some t → job_refusal input ≡ Some t
  line_refuses t e = ap (λ (o : Option Told). or_else o (or_else (making_refusal (order input)) (sheet_refusal (order input) (sheet_in input)))) e

  -- past the line, what is made and the sheet decide
  past_line : (o : Order) → first_of (order_tests input) ≡ None → order input ≡ Ok o → job_refusal input ≡ or_else (making_refusal (Ok o)) (sheet_refusal (Ok o) (sheet_in input))
  past_line o none e =
      ap (λ (t : Option Told). or_else t (or_else (making_refusal (order input)) (sheet_refusal (order input) (sheet_in input)))) none
      ∙ ap (λ (x : Result Order ℕ). or_else (making_refusal x) (sheet_refusal x (sheet_in input))) e

  pub making_refuses : (o : Order) (t : Told) → first_of (order_tests input) ≡ None → order input ≡ Ok o → making_refusal (Ok o) ≡ Some t → job_refusal input ≡ Some t
  making_refuses o t none e made = past_line o none e ∙ ap (λ (x : Option Told). or_else x (sheet_refusal (Ok o) (sheet_in input))) made

  -- the sheet's own refusal decides then
  pub sheet_decides : (o : Order) (m : Meaning) (s : SiteSettings) (sheet : List ℕ) → first_of (order_tests input) ≡ None → order input ≡ Ok o → making_refusal (Ok o) ≡ None
      → m ≡ squared o.x o.y → s ≡ settings_from o.levels o.robots o.set → sheet ≡ sheet_in input → job_refusal input ≡ judging_refusal m s sheet
  sheet_decides o m s sheet none e made em es el =
      past_line o none e ∙ ap (λ (x : Option Told). or_else x (sheet_refusal (Ok o) (sheet_in input))) made
      ∙ ap (λ (l : List ℕ). judging_refusal (squared o.x o.y) (settings_from o.levels o.robots o.set) l) (sym el)
      ∙ ap (λ (x : SiteSettings). judging_refusal (squared o.x o.y) x sheet) (sym es)
      ∙ ap (λ (x : Meaning). judging_refusal x s sheet) (sym em)

  -- and the site is the job's
  pub site_same : (o : Order) (m : Meaning) (s : SiteSettings) → order input ≡ Ok o → m ≡ squared o.x o.y → s ≡ settings_from o.levels o.robots o.set
      → opened m s ≡ order_site (order input)
  site_same o m s e em es = ap (λ (x : Meaning). opened x s) em ∙ ap (opened (squared o.x o.y)) es ∙ ap order_site (sym e)
