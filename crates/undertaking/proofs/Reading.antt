-- The marks and the states of a site say what runs on it. Assumes nothing.
use Rattle.std.proofs.Common.{◌≡◌, ℕ, true, sym, refl, ap, ◌∙◌, inl, inr}
use Rattle.std.proofs.lemmas.Bool.{false≢true, true≢false}
use Rattle.terms.specs.Durations.{SiteSettings}
use Rattle.ground.specs.Meaning.{Meaning, Lawful}
use Rattle.gate.specs.declared.column.Part.TheVariants.{Entering, Leaving, Departing, Arriving, Laying, Rising, Lifting, Sinking}
use Rattle.gate.specs.declared.column.State.{State}
use Rattle.gate.specs.declared.column.State.TheVariants.{Free, Standing, Busy}
use Rattle.gate.specs.Column.{robot, changes, held}
use Rattle.gate.specs.Scene.{Columns, state_at}
use Rattle.undertaking.specs.Obeying.{Holds}
use Rattle.undertaking.specs.Obeying.Holds.{own, also}
use Rattle.undertaking.specs.Undertaking.{BuiltOn, Reads}
use Rattle.undertaking.proofs.Plain.{Proper}
use Rattle.undertaking.proofs.Kept.{Kept}
use Rattle.undertaking.proofs.Scenes.{scene, marks_say}

module _ (m : Meaning) (s : SiteSettings) (law : Lawful m) (ok : Proper s) (xs : Columns) (k : Kept m s xs) where
  by_change : (c : ℕ) (t : State) → state_at xs c ≡ t → changes t ≡ true → BuiltOn xs c
  by_change c Free e h = absurd (false≢true h)
  by_change c (Standing b) e h = absurd (false≢true h)
  by_change c (Busy (Entering b) n) e h = absurd (false≢true h)
  by_change c (Busy (Leaving b) n) e h = absurd (false≢true h)
  by_change c (Busy (Departing b d) n) e h = absurd (false≢true h)
  by_change c (Busy (Arriving b d) n) e h = absurd (false≢true h)
  by_change c (Busy (Laying d) n) e h = absurd (false≢true h)
  by_change c (Busy (Rising f) n) e h = (f, n, inl (k.faces c f (Rising f) n e refl).state)
  by_change c (Busy (Lifting d) n) e h = absurd (false≢true h)
  by_change c (Busy (Sinking f) n) e h = (f, n, inr (k.faces c f (Sinking f) n e refl).state)

  changed_by : (c : ℕ) → BuiltOn xs c → changes (state_at xs c) ≡ true
  changed_by c (f, n, inl e) = ap changes (k.faces f c (Laying c) n e refl).state
  changed_by c (f, n, inr e) = ap changes (k.faces f c (Lifting c) n e refl).state

  -- some robot holds a column that is not free: its own, or its partner's
  holder : (c : ℕ) (t : State) → state_at xs c ≡ t → (t ≡ Free → ⊥) → (r : ℕ) × Holds xs r c
  holder c Free e h = absurd (h refl)
  holder c (Standing b) e h = (c, own (ap robot e))
  holder c (Busy (Entering b) n) e h = (c, own (ap robot e))
  holder c (Busy (Leaving b) n) e h = (c, own (ap robot e))
  holder c (Busy (Departing b d) n) e h = (c, own (ap robot e))
  holder c (Busy (Arriving b f) n) e h = let p = (k.faces c f (Arriving b f) n e refl).state in (f, also (ap robot p) p refl)
  holder c (Busy (Laying d) n) e h = (c, own (ap robot e))
  holder c (Busy (Rising f) n) e h = let p = (k.faces c f (Rising f) n e refl).state in (f, also (ap robot p) p refl)
  holder c (Busy (Lifting d) n) e h = (c, own (ap robot e))
  holder c (Busy (Sinking f) n) e h = let p = (k.faces c f (Sinking f) n e refl).state in (f, also (ap robot p) p refl)

  not_free : (r : ℕ) {c : ℕ} → Holds xs r c → state_at xs c ≡ Free → ⊥
  not_free r (own a) e = false≢true (sym (ap robot e) ∙ a)
  not_free r (also {p} {n} {c} a i o) e = true≢false (sym (ap held (k.faces r c p n i o).state) ∙ ap held e)

  pub reads : Reads (scene m s xs)
  reads =
      record {
        marked_built = λ c h. by_change c (state_at xs c) refl (sym (marks_say m s law ok xs k c) ∙ h);
        built_marked = λ c b. marks_say m s law ok xs k c ∙ changed_by c b;
        held_by = λ c h. holder c (state_at xs c) refl h;
        holder_holds = λ c r h e. not_free r h e;
      }
