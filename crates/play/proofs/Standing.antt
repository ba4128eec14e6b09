-- The theorem of plays: its parts put together. Assumes nothing.
use Rattle.std.proofs.Common.{◌≡◌, ℕ, Bool, cond, List, Some, length, get_or, replicate, sym, ap, ◌∙◌, inl, inr, arith}
use Rattle.std.proofs.lemmas.List.{get_or_past, get_or-replicate, length-replicate}
use Rattle.std.proofs.lemmas.Bool.{cases_lt, false_from_ne_true}
use Rattle.terms.specs.declared.refusal.Rule.TheVariants.{NotFresh}
use Rattle.terms.specs.Refusals.{told}
use Rattle.gate.specs.declared.column.Column.{Column}
use Rattle.gate.specs.Column.{changes, fresh}
use Rattle.gate.specs.Scene.{Scene, one_if}
use Rattle.gate.proofs.Waiting.{settles_so}
use Rattle.plan.specs.Plan.{Action}
use Rattle.play.specs.Play.{Blank, Fresh, Outcome, is_fresh, play, play_on}
use Rattle.play.specs.Stands.{PlaysStand}
use Rattle.play.proofs.Columns.{at_opened}
use Rattle.play.proofs.Freshness.{fresh_decides}
use Rattle.play.proofs.Marks.{Marked}
use Rattle.play.proofs.Plans.{Obeys}
use Rattle.play.proofs.Playing.{from_line}
use Rattle.play.proofs.Relation.{played_so}
use Rattle.play.proofs.Site.{shows_fresh}

blank : (c : ℕ) → ◌≡◌ {A = ℕ} (get_or (replicate 256 0) c 0) 0
blank c =
    elim (cases_lt c 256) [
      | inl l ↦ get_or-replicate 256 c 0 0 l
      | inr g ↦ let ms : List ℕ = replicate 256 0 in get_or_past ms c 0 (omega (arith, length-replicate {A = ℕ} 256 0))
    ]

unmarked : (v : Scene) → Blank v → Marked v.columns v.marks
unmarked v fr = record { room = fr.room; tells = λ c. fr.unmarked c ∙ ap (λ z. one_if (changes z)) (sym (fr.free c)) }

module _ (actions : List Action) (v : Scene) where
  -- what playing on the site gives, by whether it is fresh
  abbrev given : Bool → Outcome
  given fresh = cond fresh (play actions 0 v) (record { answer = Some (told NotFresh 0 0); site = v })

  on_fresh : Fresh v → play_on actions v ≡ play actions 0 v
  on_fresh fr = ap given ((fresh_decides v).1 fr)

  on_other : (Fresh v → ⊥) → play_on actions v ≡ record { answer = Some (told NotFresh 0 0); site = v }
  on_other other = ap given (false_from_ne_true (is_fresh v) (λ t. other ((fresh_decides v).0 t)))

pub plays_stand : PlaysStand
plays_stand =
    record {
      opens_blank = λ m s.
          record {
            size = length-replicate m.columns fresh;
            free = λ c. ap (λ (x : Column). x.state) (at_opened m.columns c);
            flat = λ c. ap (λ (x : Column). x.height) (at_opened m.columns c);
            room = length-replicate {A = ℕ} 256 0;
            unmarked = blank;
          };
      fresh_words = fresh_decides;
      on_fresh = on_fresh;
      on_other = on_other;
      settles = settles_so;
      played = played_so;
      comes = λ v plan targets law usable rules fr.
          let ob : Obeys v.meaning v.settings plan targets = record { law = law; usable = usable; rules = rules } in
          from_line ob (length plan) 0 (omega arith) 0 v.columns v.marks
          (shows_fresh ob fr.size fr.free fr.flat) (unmarked v fr) (λ j c l st. absurd (omega arith));
    }
