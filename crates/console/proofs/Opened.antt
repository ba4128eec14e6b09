-- What lines do until one opens a site, and behind it. Assumes nothing.
use Rattle.std.proofs.Common.{◌≡◌, ℕ, suc, inl, inr, true, false, ltb, List, [], ◌∷◌, ◌++◌, length, count_by, codes, Some, None, Option, refl, ap, sym, ◌∙◌, subst, append_assoc, append-nil, arith}
use Rattle.std.specs.Prelude.{◌==◌}
use Rattle.std.proofs.lemmas.Bool.{ltb-true, or_cases}
use Rattle.terms.specs.Refusals.{Told}
use Rattle.ground.specs.Lawful.{square_lawful}
use Rattle.ground.specs.Meaning.{Lawful}
use Rattle.undertaking.proofs.Making.{proper}
use Rattle.undertaking.proofs.Plain.{Proper}
use Rattle.console.specs.declared.made.Made.{Made}
use Rattle.console.specs.declared.made.Made.TheVariants.{Square, Listed}
use Rattle.console.specs.Halls.{Hall, printed}
use Rattle.console.specs.Lines.{Entry, entries_in}
use Rattle.console.specs.Openings.{Opening, opened_ground, opened_settings, opened_width, opening_in, opening_refusal}
use Rattle.console.specs.Printed.{behind_opening, first_part, first_text, found, made_text, open_text, opened_hall, opens, or_later, too_long, unless}
use Rattle.console.specs.Sessions.{Answered, Opens, Session}
use Rattle.console.specs.Texts.{labelled}
use Rattle.console.specs.View.{Makes, made_hall}
use Rattle.console.proofs.Lining.{within}
use Rattle.console.proofs.Session.{session}

-- what is printed behind the opening that lines make, if they make one
abbrev Behind : Option Opening → List Entry → List ℕ → Type 0
Behind None es t = t ≡ []
Behind (Some o) es t = Session (opened_ground o) (opened_settings o) (opened_width o) es t

some_word : (w : List ℕ) (ws : List (List ℕ)) → (w ∷ ws) ≡ [] → ⊥
some_word w ws z = let n : suc (length ws) ≡ 0 = ap length z in absurd (omega (arith, n))

by_words : (k : ℕ) (ws : List (List ℕ)) (sheet : List ℕ) (es : List Entry) (t : List ℕ) → (Behind (found es) (behind_opening es) t → Opens es (first_part es ++ t))
    → Behind (found (record { line = k; words = ws; sheet = sheet } ∷ es)) (behind_opening (record { line = k; words = ws; sheet = sheet } ∷ es)) t
    → Opens (record { line = k; words = ws; sheet = sheet } ∷ es) (first_part (record { line = k; words = ws; sheet = sheet } ∷ es) ++ t)
by_words k [] sheet es t ih b = Opens.silent refl (ih b)
by_words k (w ∷ ws) sheet es t ih b = go (opening_in (w ∷ ws)) refl b
  where
    e : Entry
    e = record { line = k; words = w ∷ ws; sheet = sheet }

    tried : (o : Opening) (r : Option Told) → opening_in (w ∷ ws) ≡ Some o → opening_refusal o ≡ r
        → Behind (or_later (unless r o) (unless r o) (found es)) (or_later (unless r o) es (behind_opening es)) t
        → Opens (e ∷ es) ((labelled k (made_text r o) ++ or_later (unless r o) [] (first_part es)) ++ t)
    tried o None eo er b =
        subst (λ (x : List ℕ). Opens (e ∷ es) (x ++ t)) (sym (append-nil (labelled k (open_text (opened_ground o).columns)))) (Opens.opens (some_word w ws) o eo er b)
    tried o (Some why) eo er b =
        subst (Opens (e ∷ es)) (sym (append_assoc (labelled k (made_text (Some why) o)) (first_part es) t)) (Opens.refused (some_word w ws) o why eo er (ih b))

    go : (x : Option Opening) → opening_in (w ∷ ws) ≡ x
        → Behind (or_later (opens x) (opens x) (found es)) (or_later (opens x) es (behind_opening es)) t
        → Opens (e ∷ es) ((labelled k (first_text x) ++ or_later (opens x) [] (first_part es)) ++ t)
    go None ex b = subst (Opens (e ∷ es)) (sym (append_assoc (labelled k (first_text None)) (first_part es) t)) (Opens.unread (some_word w ws) ex (ih b))
    go (Some o) ex b = tried o (opening_refusal o) ex refl b

opens_so : (es : List Entry) (t : List ℕ) → Behind (found es) (behind_opening es) t → Opens es (first_part es ++ t)
opens_so [] t b = subst (Opens []) (sym b) Opens.end
opens_so (e ∷ es) t b = by_words e.line e.words e.sheet es t (opens_so es t) b

-- the ground and the settings that were made are lawful and proper
made_lawful : (m : Made) → Lawful (made_hall m).scene.meaning
made_lawful (Square g s w) = square_lawful g.x g.y g.x_low g.x_high g.y_low g.y_high
made_lawful (Listed g s) = g.lawful

made_proper : (m : Made) → Proper (made_hall m).scene.settings
made_proper (Square g s w) = proper s
made_proper (Listed g s) = proper s

made_session : (o : Opening) (m : Made) → Makes o m → (es : List Entry) → Session (opened_ground o) (opened_settings o) (opened_width o) es (printed (opened_hall o) es)
made_session o m made es =
    session (opened_ground o) (opened_settings o) (subst (λ (h : Hall). Lawful h.scene.meaning) made.hall (made_lawful m))
    (subst (λ (h : Hall). Proper h.scene.settings) made.hall (made_proper m)) (opened_width o) es

-- a script that is read: with no site, and with one
read_so : (script t : List ℕ) → too_long script ≡ false → Behind (found (entries_in script)) (behind_opening (entries_in script)) t
    → Answered script (first_part (entries_in script) ++ t)
read_so script t e b = let w = within script e in Answered.read w.0 w.3 (opens_so (entries_in script) t b)

pub unopened_so : (script text : List ℕ) → too_long script ≡ false → found (entries_in script) ≡ None → text ≡ first_part (entries_in script) → Answered script text
unopened_so script text e none et =
    let b : Behind (found (entries_in script)) (behind_opening (entries_in script)) [] = subst (λ o. Behind o (behind_opening (entries_in script)) []) (sym none) refl in
    subst (Answered script) (append-nil (first_part (entries_in script)) ∙ sym et) (read_so script [] e b)

pub opened_so : (script text : List ℕ) (o : Opening) (m : Made) → too_long script ≡ false → found (entries_in script) ≡ Some o → Makes o m
    → text ≡ first_part (entries_in script) ++ printed (made_hall m) (behind_opening (entries_in script)) → Answered script text
opened_so script text o m e some made et =
    let es = behind_opening (entries_in script) in
    let b : Behind (found (entries_in script)) es (printed (opened_hall o) es) =
    subst (λ x. Behind x es (printed (opened_hall o) es)) (sym some) (made_session o m made es) in
    subst (Answered script) (ap (λ (h : Hall). first_part (entries_in script) ++ printed h es) (sym made.hall) ∙ sym et) (read_so script (printed (opened_hall o) es) e b)

pub too_long_so : (script text : List ℕ) → too_long script ≡ true → text ≡ codes "a script has at most 65536 bytes and 8192 newlines\n" → Answered script text
too_long_so script text e et = subst (Answered script) (sym et) (Answered.too_long (elim (or_cases (ltb 65536 (length script)) (ltb 8192 (count_by (λ b. b == 10) script)) e) [ inl l ↦ inl (ltb-true _ _ l) | inr r ↦ inr (ltb-true _ _ r) ]))
