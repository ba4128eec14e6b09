-- A site that was opened and only called, and is fresh, is as it opened. Assumes nothing.
use Rattle.std.proofs.Common.{◌≡◌, ℕ, ◌≤◌, false, eqb, ◌⊎◌, get_or, refl, ap, ◌∙◌, inl, inr, arith}
use Rattle.std.proofs.lemmas.List.FromFn.{length-map-range_with_len}
use Rattle.std.proofs.lemmas.List.{get_or_past}
use Rattle.std.proofs.lemmas.Bool.{both_ways, cases_lt, eqb-true, not-false, true≢false}
use Rattle.terms.specs.Durations.{SiteSettings}
use Rattle.ground.specs.Meaning.{Lawful, Meaning}
use Rattle.gate.specs.declared.column.Column.{Column}
use Rattle.gate.specs.declared.column.State.{State}
use Rattle.gate.specs.declared.column.State.TheVariants.{Free, Standing, Busy}
use Rattle.gate.specs.Column.{changes, held, robot}
use Rattle.gate.specs.Column.{fresh as fresh_column}
use Rattle.gate.specs.Scene.{Columns, mark_of, state_at}
use Rattle.undertaking.specs.Obeying.{Holds}
use Rattle.undertaking.specs.Obeying.Holds.{own, also}
use Rattle.undertaking.proofs.Plain.{Proper}
use Rattle.undertaking.proofs.Kept.{Kept}
use Rattle.undertaking.proofs.Reading.{reads}
use Rattle.undertaking.proofs.Scenes.{marks_of, marks_say, scene}
use Rattle.play.specs.Play.{Blank, Fresh}

module _ (m : Meaning) (s : SiteSettings) (law : Lawful m) (ok : Proper s) (xs : Columns) (k : Kept m s xs) (fresh : Fresh (scene m s xs)) where
  past : (c : ℕ) → m.columns ≤ c → get_or xs c fresh_column ≡ fresh_column
  past c g = get_or_past xs c fresh_column (omega (arith, k.long))

  no_robot : (c : ℕ) → robot (state_at xs c) ≡ false
  no_robot c = elim (cases_lt c m.columns) [ inl l ↦ fresh.no_robot c l | inr g ↦ ap (λ (x : Column). robot x.state) (past c g) ]

  no_holder : (r c : ℕ) → Holds xs r c → ⊥
  no_holder r c (own a) = both_ways (robot (state_at xs r)) (no_robot r) a
  no_holder r c (also a i o) = both_ways (robot (state_at xs r)) (no_robot r) a

  free_or_not : (t : State) → (t ≡ Free) ⊎ (t ≡ Free → ⊥)
  free_or_not Free = inl refl
  free_or_not (Standing b) = inr (λ e. true≢false (ap held e))
  free_or_not (Busy p n) = inr (λ e. true≢false (ap held e))

  all_free : (c : ℕ) → state_at xs c ≡ Free
  all_free c = elim (free_or_not (state_at xs c)) [
    | inl e ↦ e
    | inr n ↦ let w = (reads m s law ok xs k).held_by c n in absurd (no_holder w.0 c w.1)
  ]

  pub blank_so : Blank (scene m s xs)
  blank_so =
      record {
        size = k.long;
        free = all_free;
        flat = λ c. elim (cases_lt c m.columns) [ inl l ↦ fresh.flat c l | inr g ↦ ap (λ (x : Column). x.height) (past c g) ];
        room = length-map-range_with_len (mark_of xs) 0 256;
        unmarked = λ c. eqb-true (get_or (marks_of xs) c 0) 0
            (not-false (eqb (get_or (marks_of xs) c 0) 0) (marks_say m s law ok xs k c ∙ ap changes (all_free c)));
      }
