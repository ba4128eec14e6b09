-- Each test of reading decides its reason in words, so the first that holds settles a sheet. Assumes nothing.
use Rattle.std.proofs.Common.{◌≡◌, ℕ, suc, ◌%◌, ◌<◌, ◌≤◌, Bool, true, false, cond, not, ◌&&◌, eqb, ltb, leb, ◌⊎◌, List, ◌∷◌, length, get_or, Some, None, Decides, Option, sym, refl, ap, ◌∙◌, subst, inl, inr, ⊎_elim}
use Rattle.std.proofs.lemmas.Bool.Decides.{Decides-and, Decides-eqb, Decides-like, Decides-ltb, Decides-not, Decides-or}
use Rattle.std.proofs.ByRecursion.{Decides-by_and}
use Rattle.std.proofs.lemmas.Bool.{and_from, and_left, and_right, cases_Bool, eq-eqb, eqb-true, ne_eqb, not_from_false, not-true, true≢false}
use Rattle.terms.specs.Durations.{SiteSettings}
use Rattle.terms.specs.Refusals.{Settles, from_on, told}
use Rattle.terms.specs.declared.refusal.Rule.TheVariants.{SheetShape}
use Rattle.terms.proofs.First.{Decide, decide_on, decides_some, first_settles}
use Rattle.terms.proofs.Tests.{decides_leb}
use Rattle.ground.specs.Meaning.{Meaning}
use Rattle.sheet.specs.declared.record.Record.{Record}
use Rattle.sheet.specs.declared.record.Record.TheVariants.{Goal, Act, Note, End}
use Rattle.sheet.specs.declared.target.Target.{Target}
use Rattle.sheet.specs.Lines.{Word, bad_field, bad_shape, fields, misshapen, plain_byte, printable, word}
use Rattle.sheet.specs.Reading.{acts, bad_sheet, end_misplaced, goal_fits, goal_misplaced, line_at, lines_in, reading_refusal, rises, shown_at, targets, tests_at}
use Rattle.sheet.specs.Reasons.{BadSheet, BadShape, IsEndMisplaced, GoalFits, IsGoalMisplaced, Printable, reading_reasons, reasons_at}

sheet_decides : (sheet : List ℕ) → Decides (bad_sheet sheet) (BadSheet sheet)
sheet_decides sheet =
    Decides-like (bad_sheet sheet)
    (⊎_elim (λ e. BadSheet.no_bytes e) (⊎_elim (λ e. BadSheet.cut_short e) (λ e. BadSheet.too_long e)))
    back
    (Decides-or (eqb (length sheet) 0) _ (Decides-eqb _ _) (Decides-or (not (eqb (length sheet % 35) 0)) _ (Decides-not _ (Decides-eqb _ _)) (Decides-ltb _ _)))
  where
    back : BadSheet sheet → (length sheet ≡ 0) ⊎ ((length sheet % 35 ≡ 0 → ⊥) ⊎ (1500 < lines_in sheet))
    back (BadSheet.no_bytes e) = inl e
    back (BadSheet.cut_short e) = inr (inl e)
    back (BadSheet.too_long e) = inr (inr e)

pub printable_decides : (bs : List ℕ) → Decides (printable bs) (Printable bs)
printable_decides bs =
    Decides-by_and plain_byte (λ b. (32 ≤ b) × (b ≤ 126)) printable (λ b. Decides-and (leb 32 b) (leb b 126) (decides_leb 32 b) (decides_leb b 126)) refl (λ _ _. refl) bs

-- a line with another word than a note's, and a newline, has no bad shape
fine : (l : List ℕ) (w : Word) → (w ≡ Word.note → ⊥) → get_or l 34 0 ≡ 10 → word l ≡ Some w → BadShape l → ⊥
fine l w other nl e (BadShape.no_newline f) = f nl
fine l w other nl e (BadShape.no_word f) = cc
fine l w other nl e (BadShape.unprintable f q) = other (cc)

-- nor has a note that can be printed
plain_note : (l : List ℕ) → get_or l 34 0 ≡ 10 → word l ≡ Some Word.note → Printable (fields l) → BadShape l → ⊥
plain_note l nl e p (BadShape.no_newline f) = f nl
plain_note l nl e p (BadShape.no_word f) = cc
plain_note l nl e p (BadShape.unprintable f q) = q p

never : (l : List ℕ) → (BadShape l → ⊥) → Decides false (BadShape l)
never l n = (λ h. absurd (true≢false (sym h)), λ b. absurd (n b))

shape_decides : (l : List ℕ) → Decides (bad_shape l) (BadShape l)
shape_decides l = go (eqb (get_or l 34 0) 10) (word l) refl refl
  where
    note : (t : Bool) → t ≡ printable (fields l) → get_or l 34 0 ≡ 10 → word l ≡ Some Word.note → Decides (not t) (BadShape l)
    note true et nl ew = never l (plain_note l nl ew ((printable_decides (fields l)).0 (sym et)))
    note false et nl ew = (λ _. BadShape.unprintable ew (λ p. true≢false (sym ((printable_decides (fields l)).1 p) ∙ sym et)), λ _. refl)

    go : (b : Bool) (w : Option Word) → b ≡ eqb (get_or l 34 0) 10 → w ≡ word l → Decides (misshapen (cond b w None) (fields l)) (BadShape l)
    go false w eb ew = (λ _. BadShape.no_newline (λ h. true≢false (sym ((Decides-eqb (get_or l 34 0) 10).1 h) ∙ sym eb)), λ _. refl)
    go true None eb ew = (λ _. BadShape.no_word (sym ew), λ _. refl)
    go true (Some Word.goal) eb ew = never l (fine l Word.goal (λ e. cc) (eqb-true _ _ (sym eb)) (sym ew))
    go true (Some Word.act) eb ew = never l (fine l Word.act (λ e. cc) (eqb-true _ _ (sym eb)) (sym ew))
    go true (Some Word.note) eb ew = note (printable (fields l)) refl (eqb-true _ _ (sym eb)) (sym ew)
    go true (Some Word.end) eb ew = never l (fine l Word.end (λ e. cc) (eqb-true _ _ (sym eb)) (sym ew))

goal_decides : (m : Meaning) (s : SiteSettings) (ts : List Target) (n c h : ℕ) → Decides (goal_fits m s ts n c h) (GoalFits m s ts n c h)
goal_decides m s ts n c h =
    Decides-like (goal_fits m s ts n c h)
    (λ p. record { before_actions = p.0; rising = p.1.0; on_ground = p.1.1.0; inner = p.1.1.1.0; some_height = p.1.1.1.1.0; not_too_high = p.1.1.1.1.1 })
    (λ g. (g.before_actions, (g.rising, (g.on_ground, (g.inner, (g.some_height, g.not_too_high))))))
    (Decides-and (eqb n 0) _ (Decides-eqb n 0)
    (Decides-and (rises ts c) _ (Decides-or (eqb (length ts) 0) _ (Decides-eqb _ _) (Decides-ltb _ _))
    (Decides-and (ltb c m.columns) _ (Decides-ltb _ _)
    (Decides-and (not (m.border c)) _ (λ e. not-true (m.border c) e, λ e. not_from_false (m.border c) e)
    (Decides-and (leb 1 h) _ (decides_leb 1 h) (Decides-ltb h s.levels))))))

no_goal : (m : Meaning) (s : SiteSettings) (ts : List Target) (n : ℕ) (r : Option Record) → ((c h : ℕ) → r ≡ Some (Goal c h) → ⊥) → Decides false (IsGoalMisplaced m s ts n r)
no_goal m s ts n r none = (λ e. absurd (true≢false (sym e)), back)
  where
    back : IsGoalMisplaced m s ts n r → false ≡ true
    back (IsGoalMisplaced.goal_misplaced c h e f) = absurd (none c h e)

misplaced_decides : (m : Meaning) (s : SiteSettings) (ts : List Target) (n : ℕ) (r : Option Record) → Decides (goal_misplaced m s ts n r) (IsGoalMisplaced m s ts n r)
misplaced_decides m s ts n None = no_goal m s ts n None (λ c h e. cc)
misplaced_decides m s ts n (Some (Goal c h)) =
    let d = Decides-not (goal_fits m s ts n c h) (goal_decides m s ts n c h) in
    (λ e. IsGoalMisplaced.goal_misplaced c h refl (d.0 e), λ p. d.1 (back p))
  where
    back : IsGoalMisplaced m s ts n (Some (Goal c h)) → GoalFits m s ts n c h → ⊥
    back (IsGoalMisplaced.goal_misplaced c' h' e f) g =
        let ec : c ≡ c' = cc in
        let eh : h ≡ h' = cc in
        f (subst (λ x. GoalFits m s ts n x h') ec (subst (λ y. GoalFits m s ts n c y) eh g))
misplaced_decides m s ts n (Some (Act a)) = no_goal m s ts n (Some (Act a)) (λ c h e. cc)
misplaced_decides m s ts n (Some Note) = no_goal m s ts n (Some Note) (λ c h e. cc)
misplaced_decides m s ts n (Some (End k)) = no_goal m s ts n (Some (End k)) (λ c h e. cc)

-- a line that is no END is misplaced just where it is the last
no_end_decides : (b : Bool) (P : Type 0) (n : ℕ) (r : Option Record) → ((k : ℕ) → r ≡ Some (End k) → ⊥) → Decides b P → Decides b (IsEndMisplaced P n r)
no_end_decides b P n r none d = (λ e. IsEndMisplaced.no_end (d.0 e) (none n), back)
  where
    back : IsEndMisplaced P n r → b ≡ true
    back (IsEndMisplaced.no_end p f) = d.1 p
    back (IsEndMisplaced.early_end f k e) = absurd (none k e)

end_decides : (b : Bool) (P : Type 0) (n k : ℕ) → Decides b P → Decides (not (b && eqb k n)) (IsEndMisplaced P n (Some (End k)))
end_decides b P n k d = (there (cases_Bool b), back)
  where
    there : (b ≡ true) ⊎ (b ≡ false) → not (b && eqb k n) ≡ true → IsEndMisplaced P n (Some (End k))
    there (inl t) e =
        IsEndMisplaced.no_end (d.0 t) (λ q. let k_is : k ≡ n = cc in true≢false (sym (and_from b (eqb k n) t (eq-eqb k n k_is)) ∙ not-true (b && eqb k n) e))
    there (inr f) e = IsEndMisplaced.early_end (λ p. true≢false (sym (d.1 p) ∙ f)) k refl

    back : IsEndMisplaced P n (Some (End k)) → not (b && eqb k n) ≡ true
    back (IsEndMisplaced.no_end p f) = not_from_false (b && eqb k n) (and_right b (eqb k n) (ne_eqb k n (λ e. f (ap (λ (x : ℕ). Some (End x)) e))))
    back (IsEndMisplaced.early_end f j e) = not_from_false (b && eqb k n) (and_left b (eqb k n) (not_yes (cases_Bool b)))
      where
        not_yes : (b ≡ true) ⊎ (b ≡ false) → b ≡ false
        not_yes (inl t) = absurd (f (d.0 t))
        not_yes (inr g) = g

ends_decides : (b : Bool) (P : Type 0) (n : ℕ) (r : Option Record) → Decides b P → Decides (end_misplaced b n r) (IsEndMisplaced P n r)
ends_decides b P n None d = no_end_decides b P n None (λ k e. cc) d
ends_decides b P n (Some (Goal c h)) d = no_end_decides b P n (Some (Goal c h)) (λ k e. cc) d
ends_decides b P n (Some (Act a)) d = no_end_decides b P n (Some (Act a)) (λ k e. cc) d
ends_decides b P n (Some Note) d = no_end_decides b P n (Some Note) (λ k e. cc) d
ends_decides b P n (Some (End k)) d = end_decides b P n k d

line_decides : (m : Meaning) (s : SiteSettings) (sheet : List ℕ) (i : ℕ) → Decide (tests_at m s sheet i) (reasons_at m s sheet i)
line_decides m s sheet i =
    let here = shown_at sheet i in (
      shape_decides (line_at sheet i),
      refl,
      (
        decides_some (bad_field (suc i) (line_at sheet i)),
        refl,
        (
          misplaced_decides m s (targets sheet i) (length (acts sheet i)) here,
          refl,
          (ends_decides (eqb (suc i) (lines_in sheet)) (suc i ≡ lines_in sheet) (length (acts sheet i)) here (Decides-eqb (suc i) (lines_in sheet)), refl, tt),
        ),
      ),
    )

pub reading_settles : (m : Meaning) (s : SiteSettings) (sheet : List ℕ) → Settles (reading_reasons m s sheet) (reading_refusal m s sheet)
unfolding reading_reasons reading_refusal
reading_settles m s sheet =
    first_settles ((bad_sheet sheet, told SheetShape 0 0) ∷ from_on (tests_at m s sheet) 0 (lines_in sheet))
    (record { holds = BadSheet sheet; tells = told SheetShape 0 0 } ∷ from_on (reasons_at m s sheet) 0 (lines_in sheet))
    (sheet_decides sheet, refl, decide_on (tests_at m s sheet) (reasons_at m s sheet) (line_decides m s sheet) 0 (lines_in sheet))
