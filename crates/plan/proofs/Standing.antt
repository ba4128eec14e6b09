-- A well marked line stands for the action that it is taken for. Assumes nothing.
use Rattle.std.proofs.Common.{◌≡◌, ℕ, Bool, true, false, cond, not, ◌&&◌, eqb, IfOk, Some, None, Ok, Err, Option, Result, sym, refl, ap, ◌∙◌, subst}
use Rattle.std.proofs.lemmas.Bool.{and_parts, and_from, eqb-true, eq-eqb, true≢false}
use Rattle.ground.specs.Meaning.{Meaning}
use Rattle.terms.specs.Durations.{SiteSettings}
use Rattle.terms.specs.Refusals.{Answers, Told, first_of, told}
use Rattle.terms.specs.declared.refusal.Refusal.{Refusal}
use Rattle.plan.specs.declared.action.Action.{Action as Held}
use Rattle.plan.specs.View.{action_of}
use Rattle.terms.specs.declared.refusal.Rule.TheVariants.{MarksMixed}
use Rattle.terms.specs.declared.work.Work.TheVariants.{Wait, Move}
use Rattle.sheet.specs.declared.record.ActLine.{ActLine}
use Rattle.sheet.specs.declared.record.Letter.{Letter}
use Rattle.sheet.specs.declared.record.Letter.TheVariants.{M, P, D}
use Rattle.sheet.specs.declared.record.Place.{Place}
use Rattle.sheet.specs.declared.record.Place.TheVariants.{Outside, At}
use Rattle.plan.specs.Lines.{written_action}
use Rattle.plan.specs.Plan.{Action}
use Rattle.plan.proofs.Tests.{ends_when_done, is_target, tests_of}
use Rattle.plan.proofs.Lined.{decides_marks}
use Rattle.plan.specs.Lines.{line_tests, marks_fit}
use Rattle.plan.specs.Rules.{LinesStand, Marks}
use Rattle.plan.specs.Stands.{Does, StandsFor}

module _ (n s e : ℕ) (carry : Bool) where
  abbrev l : Letter → Place → Place → Place → Place → ActLine
  l letter fc fh tc th =
      record {
        line = n;
        start = s;
        end = e;
        from = record { column = fc; height = fh };
        carry = carry;
        letter = letter;
        to = record { column = tc; height = th };
      }

  same : (letter : Letter) (fc fh tc th : Place) →
      Does (l letter fc fh tc th) (written_action (l letter fc fh tc th)) (written_action (l letter fc fh tc th)).work
      (written_action (l letter fc fh tc th)).from (written_action (l letter fc fh tc th)).from_height
      (written_action (l letter fc fh tc th)).to (written_action (l letter fc fh tc th)).to_height
  same letter fc fh tc th =
      record { work = refl; from = refl; from_height = refl; to = refl; to_height = refl; line = refl; carry = refl; start = refl; end = refl }

  inner : (c h d k : ℕ) (b : Bool) → (eqb c d && eqb h k) ≡ b → StandsFor (l M (At c) (At h) (At d) (At k)) (written_action (l M (At c) (At h) (At d) (At k)))
  inner c h d k true t =
      let p = and_parts (eqb c d) (eqb h k) t in
      let x : d ≡ c = sym (eqb-true c d p.0) in
      let y : k ≡ h = sym (eqb-true h k p.1) in
      StandsFor.wait c h refl (refl, refl) (ap At x, ap At y)
      (record { work = ap (λ (b : Bool). cond b Wait Move) t; from = refl; from_height = refl; to = x; to_height = y; line = refl; carry = refl; start = refl; end = refl })
  inner c h d k false t =
      StandsFor.move c h d k refl (refl, refl) (refl, refl)
      (λ q. true≢false (sym (and_from (eqb c d) (eqb h k) (eq-eqb c d q.0) (eq-eqb h k q.1)) ∙ t))
      (record { work = ap (λ (b : Bool). cond b Wait Move) t; from = refl; from_height = refl; to = refl; to_height = refl; line = refl; carry = refl; start = refl; end = refl })

  cases : (letter : Letter) (fc fh tc th : Place) → Marks (l letter fc fh tc th) → StandsFor (l letter fc fh tc th) (written_action (l letter fc fh tc th))
  cases letter Outside (At h) tc th k = absurd (true≢false k.from_whole)
  cases letter (At c) Outside tc th k = absurd (true≢false (sym k.from_whole))
  cases letter Outside Outside Outside th k = absurd (k.one_side refl refl)
  cases letter Outside Outside (At d) Outside k = absurd (true≢false (sym k.to_whole))
  cases M Outside Outside (At d) (At i) k = StandsFor.entry d i refl (refl, refl) (refl, refl) (same M Outside Outside (At d) (At i))
  cases P Outside Outside (At d) (At i) k = absurd (true≢false k.suited.0)
  cases D Outside Outside (At d) (At i) k = absurd (true≢false k.suited.0)
  cases letter (At c) (At h) Outside (At i) k = absurd (true≢false k.to_whole)
  cases letter (At c) (At h) (At d) Outside k = absurd (true≢false (sym k.to_whole))
  cases M (At c) (At h) Outside Outside k = StandsFor.leave c h refl (refl, refl) (refl, refl) (same M (At c) (At h) Outside Outside)
  cases P (At c) (At h) Outside Outside k = absurd (true≢false k.suited.1.0)
  cases D (At c) (At h) Outside Outside k = absurd (true≢false k.suited.1.0)
  cases M (At c) (At h) (At d) (At i) k = inner c h d i (eqb c d && eqb h i) refl
  cases P (At c) (At h) (At d) (At i) k = StandsFor.pick_up c h d i refl (refl, refl) (refl, refl) (same P (At c) (At h) (At d) (At i))
  cases D (At c) (At h) (At d) (At i) k = StandsFor.deliver c h d i refl (refl, refl) (refl, refl) (same D (At c) (At h) (At d) (At i))

pub stands : (x : ActLine) → Marks x → StandsFor x (written_action x)
stands x k = cases x.line x.start x.end x.carry x.letter x.from.column x.from.height x.to.column x.to.height k

-- so does one that nothing refuses by itself
pub unrefused_stands : (m : Meaning) (s : SiteSettings) (x : ActLine) (a : Action) → first_of (line_tests m s x) ≡ None → a ≡ written_action x → StandsFor x a
unrefused_stands m s x a none is = go (marks_fit x) _ refl none
  where
    go : (b : Bool) (o : Option Told) → marks_fit x ≡ b → cond (not b) (Some (told MarksMixed x.line 0)) o ≡ None → StandsFor x a
    go true o t e = subst (StandsFor x) (sym is) (stands x ((decides_marks x).0 t))
    go false o t e = cc

-- and an answer that is one
pub answer_stands : (m : Meaning) (s : SiteSettings) (x : ActLine) (r : Result Held Refusal)
    → Answers (first_of (line_tests m s x)) (λ a. action_of a ≡ written_action x) r → IfOk r (λ a. StandsFor x (action_of a))
answer_stands m s x (Ok a) w = unrefused_stands m s x (action_of a) w.0 w.1
answer_stands m s x (Err f) w = tt

pub lines_stand : LinesStand
lines_stand = record { stands = stands; tests = tests_of; targets = is_target; ends_when_done = ends_when_done }
