-- The rules of an action against those above it, one after another. Assumes nothing.
use Rattle.std.proofs.Common.{◌≡◌, ℕ, Bool, cond, not, ltb, List, [], ◌∷◌, ◌++◌, length, Some, None, Option, sym, refl, ap, ◌∙◌}
use Rattle.std.specs.Option.{option_map}
use Rattle.terms.specs.Durations.{SiteSettings}
use Rattle.terms.specs.Refusals.{Told, told, first_of, from_on, or_else}
use Rattle.terms.specs.declared.refusal.Rule.TheVariants.{StartFalls, LeftStanding, WrongHeightsWritten, SpansCollide, FromNowhere, TooManySpans}
use Rattle.terms.proofs.First.{first_append}
use Rattle.ground.specs.Meaning.{Meaning}
use Rattle.plan.specs.Plan.{Action, line, no_action}
use Rattle.judge.specs.Finding.{find, left_between, line_in, Lowest, Settled}
use Rattle.judge.specs.Judging.{collide, crowd, falls, from_somewhere, heights_fit, judge_tests, latest_start, left_standing}
use Rattle.judge.proofs.Chains.{first_found}
use Rattle.judge.proofs.Left.{left_first}

module _ (m : Meaning) (s : SiteSettings) (above : List Action) (a : Action) where
  abbrev pub left_tests : List (Bool × Told)
  left_tests = from_on (λ c. (left_standing above a.start c, told LeftStanding a.line c) ∷ []) 0 m.columns

  abbrev pub collision_tests : List (Bool × Told)
  collision_tests = from_on (λ i. (collide (line above i) a, told SpansCollide a.line (line above i).line) ∷ []) 0 (length above)

  abbrev pub last_tests : List (Bool × Told)
  last_tests = (not (from_somewhere above a), told FromNowhere a.line 0) ∷ ((ltb s.robots (crowd above a), told TooManySpans a.line 0) ∷ [])

  pub one_by_one : first_of (judge_tests m s above a)
      ≡ cond (falls above a) (Some (told StartFalls a.line 0))
      (or_else (first_of left_tests)
      (cond (not (heights_fit above a)) (Some (told WrongHeightsWritten a.line 0))
      (or_else (first_of collision_tests) (first_of last_tests))))
  unfolding judge_tests
  one_by_one =
      ap (λ (o : Option Told). cond (falls above a) (Some (told StartFalls a.line 0)) o)
      (first_append left_tests ((not (heights_fit above a), told WrongHeightsWritten a.line 0) ∷ (collision_tests ++ last_tests))
      ∙ ap (λ (o : Option Told). or_else (first_of left_tests) (cond (not (heights_fit above a)) (Some (told WrongHeightsWritten a.line 0)) o))
      (first_append collision_tests last_tests))

  -- the first action above that collides
  collision_found : (o : Option ℕ) → o ≡ line_in (find (λ b. collide b a) above) → first_of collision_tests ≡ option_map (told SpansCollide a.line) o
  collision_found o e =
      first_found (λ b. collide b a) (λ b. told SpansCollide a.line b.line) no_action above
      ∙ twice (find (λ b. collide b a) above) ∙ ap (option_map (told SpansCollide a.line)) (sym e)
    where
      twice : (x : Option Action) → option_map (λ (b : Action). told SpansCollide a.line b.line) x ≡ option_map (told SpansCollide a.line) (line_in x)
      twice None = refl
      twice (Some b) = refl

  -- one after another, of what the code finds
  pub in_turn : Settled m above → (left : Option ℕ) → Lowest (left_between above (latest_start above) a.start) above left → (hit : Option ℕ) → hit ≡ line_in (find (λ b. collide b a) above)
      → first_of (judge_tests m s above a)
      ≡ cond (falls above a) (Some (told StartFalls a.line 0))
      (or_else (option_map (told LeftStanding a.line) left)
      (cond (not (heights_fit above a)) (Some (told WrongHeightsWritten a.line 0))
      (or_else (option_map (told SpansCollide a.line) hit) (first_of last_tests))))
  in_turn so left low hit is =
      one_by_one
      ∙ ap (λ (o : Option Told). cond (falls above a) (Some (told StartFalls a.line 0)) (or_else o (cond (not (heights_fit above a)) (Some (told WrongHeightsWritten a.line 0)) (or_else (first_of collision_tests) (first_of last_tests)))))
      (left_first m above a.start so a.line left low)
      ∙ ap (λ (o : Option Told). cond (falls above a) (Some (told StartFalls a.line 0)) (or_else (option_map (told LeftStanding a.line) left) (cond (not (heights_fit above a)) (Some (told WrongHeightsWritten a.line 0)) (or_else o (first_of last_tests)))))
      (collision_found hit is)
