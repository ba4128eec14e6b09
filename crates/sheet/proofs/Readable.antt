-- The field that is told is the first that shows nothing; and a word is its four bytes. Assumes nothing.
use Rattle.std.proofs.Common.{◌≡◌, ℕ, ◌+◌, ◌^◌, ◌<◌, ◌≤◌, Bool, true, false, cond, ◌⊎◌, List, ◌++◌, length, take, drop, Some, None, Ok, Err, Option, Result, sym, refl, ap, ◌∙◌, subst, inl, inr, arith}
use Rattle.std.specs.Prelude.{◌↔◌}
use Rattle.std.specs.Result.{result_err}
use Rattle.std.proofs.lemmas.Bool.{true≢false}
use Rattle.std.proofs.lemmas.List.{take-append-drop}
use Rattle.sheet.specs.declared.record.Letter.{Letter}
use Rattle.sheet.specs.declared.record.Place.{Place}
use Rattle.sheet.specs.declared.record.Record.TheVariants.{Goal, Act, Note, End}
use Rattle.sheet.specs.Fields.{blank, flag, letter_in, number_in, place_in}
use Rattle.sheet.specs.Lines.{Word, bad_field, fields, shown, unread, word, word_in}
use Rattle.sheet.specs.Readable.{Blank, FirstUnread, RestShows, ShowsCarry, ShowsLetter, ShowsNumber, ShowsPlace, fields_show}
use Rattle.sheet.specs.Records.{field, part, unused}
use Rattle.sheet.specs.Written.{word_text}
use Rattle.sheet.proofs.Justified.{blank_is, carry_right, is_blank, letter_right, number_right, place_right, right_carry, right_letter, right_number, right_place}
use Rattle.sheet.proofs.Laid.{length_fields, length_part, word_is}

-- ---- words

worded_back : (l : List ℕ) (w : Word) → take 4 l ≡ word_text w → word l ≡ Some w
worded_back l w e = ap word (sym (take-append-drop 4 l) ∙ ap (λ (t : List ℕ). t ++ drop 4 l) e) ∙ go w
  where
    go : (v : Word) → word (word_text v ++ drop 4 l) ≡ Some v
    go Word.goal = refl
    go Word.act = refl
    go Word.note = refl
    go Word.end = refl

pub worded : (l : List ℕ) → length l ≡ 35 → (w : Word) → (word l ≡ Some w) ↔ (take 4 l ≡ word_text w)
worded l long w = (λ e. word_is l w (omega arith) e, λ e. worded_back l w e)

-- ---- fields

pub none_some : {X : Type 0} {x : X} → None ≡ Some x → ⊥
none_some e = cc

module _ {Y : Type 0} where
  -- the faults that an answer may tell are those that F says
  abbrev pub Faults : Result Y ℕ → (ℕ → Type 0) → Type 0
  Faults r F = (k : ℕ) → (result_err r ≡ Some k) ↔ F k

  pub one_field : {X : Type 0} (i : ℕ) (o : Option X) (go : X → Result Y ℕ) (P : Type 0) (Q : ℕ → Type 0)
      → (o ≡ None → P → ⊥) → ((x : X) → o ≡ Some x → P) → ((x : X) → o ≡ Some x → Faults (go x) Q)
      → Faults (field i o go) (λ k. ((P → ⊥) × (k ≡ i)) ⊎ (P × Q k))
  one_field i None go P Q none some more k = (
    λ e. let j : i ≡ k = cc in inl (none refl, sym j),
    λ h. elim h [ inl w ↦ ap (λ (n : ℕ). Some n) (sym w.1) | inr w ↦ absurd (none refl w.0) ],
  )
  one_field i (Some x) go P Q none some more k = (
    λ e. inr (some x refl, (more x refl k).0 e),
    λ h. elim h [ inl w ↦ absurd (w.0 (some x refl)) | inr w ↦ (more x refl k).1 w.1 ],
  )

  pub blank_rest : (bs : List ℕ) (y : Y) → Faults (unused bs y) (λ k. (Blank bs → ⊥) × (k ≡ 0))
  blank_rest bs y k = go (blank bs) refl
    where
      go : (b : Bool) → blank bs ≡ b → (result_err (cond b (Ok y) (Err 0)) ≡ Some k) ↔ ((Blank bs → ⊥) × (k ≡ 0))
      go true e = (λ h. absurd (none_some h), λ w. absurd (w.0 (blank_is bs e)))
      go false e = (
        λ h. let j : 0 ≡ k = cc in (λ b. true≢false (sym (ap blank b ∙ is_blank (length bs)) ∙ e), sym j),
        λ w. ap (λ (n : ℕ). Some n) (sym w.1),
      )

  pub no_rest : (y : Y) → Faults (Ok y) (λ k. (Unit {0} → ⊥) × (k ≡ 0))
  no_rest y k = (λ h. absurd (none_some h), λ w. absurd (w.0 tt))

module _ (w : ℕ) (some : 0 < w) (nine : w ≤ 9) (top : 10 ^ w ≤ 10 ^ 9) (bs : List ℕ) where
  pub number_none : number_in bs ≡ None → ShowsNumber w bs → ⊥
  number_none e h =
      let low : h.0 < 10 ^ 9 = omega (arith, h.1, top) in
      none_some (sym e ∙ ap number_in h.2 ∙ right_number w h.0 some nine h.1 low)

  pub number_some : length bs ≡ w → (n : ℕ) → number_in bs ≡ Some n → ShowsNumber w bs
  number_some long n e = let r = number_right w bs n long e in (n, r.0, r.1)

  place_none : (mark : ℕ) → 58 ≤ mark → place_in mark bs ≡ None → ShowsPlace mark w bs → ⊥
  place_none mark high e h = none_some (sym e ∙ ap (place_in mark) h.2 ∙ right_place mark w h.0 high some nine top h.1)

  place_some : (mark : ℕ) → length bs ≡ w → (p : Place) → place_in mark bs ≡ Some p → ShowsPlace mark w bs
  place_some mark long p e = let r = place_right mark w bs p long e in (p, r.0, r.1)

module _ (bs : List ℕ) where
  carry_none : flag (number_in bs) ≡ None → ShowsCarry bs → ⊥
  carry_none e h = none_some (sym e ∙ ap (λ (t : List ℕ). flag (number_in t)) h.1 ∙ right_carry h.0)

  letter_none : letter_in bs ≡ None → ShowsLetter bs → ⊥
  letter_none e h = none_some (sym e ∙ ap letter_in h.1 ∙ right_letter 2 h.0)

-- the fields of each kind of line
module _ (fs : List ℕ) (long : length fs ≡ 30) where
  -- a number six bytes wide, as field i from place a on
  pub number_field : {Y : Type 0} (i a : ℕ) → a + 6 ≤ 30 → (go : ℕ → Result Y ℕ) (Q : ℕ → Type 0) → ((n : ℕ) → Faults (go n) Q)
      → Faults (field i (number_in (part a 6 fs)) go) (λ k. ((ShowsNumber 6 (part a 6 fs) → ⊥) × (k ≡ i)) ⊎ (ShowsNumber 6 (part a 6 fs) × Q k))
  number_field i a l go Q more =
      let bs = part a 6 fs in
      one_field i (number_in bs) go (ShowsNumber 6 bs) Q (number_none 6 (omega arith) (omega arith) (omega arith) bs)
      (number_some 6 (omega arith) (omega arith) (omega arith) bs (length_part fs a 6 (omega arith))) (λ n _. more n)

  place_field : {Y : Type 0} (i mark a w : ℕ) → 58 ≤ mark → 0 < w → w ≤ 9 → 10 ^ w ≤ 10 ^ 9 → a + w ≤ 30 → (go : Place → Result Y ℕ) (Q : ℕ → Type 0) → ((p : Place) → Faults (go p) Q)
      → Faults (field i (place_in mark (part a w fs)) go) (λ k. ((ShowsPlace mark w (part a w fs) → ⊥) × (k ≡ i)) ⊎ (ShowsPlace mark w (part a w fs) × Q k))
  place_field i mark a w high some nine top l go Q more =
      let bs = part a w fs in
      one_field i (place_in mark bs) go (ShowsPlace mark w bs) Q (place_none w some nine top bs mark high)
      (place_some w some nine top bs mark (length_part fs a w (omega arith))) (λ p _. more p)

  carry_field : {Y : Type 0} (i : ℕ) (go : Bool → Result Y ℕ) (Q : ℕ → Type 0) → ((b : Bool) → Faults (go b) Q)
      → Faults (field i (flag (number_in (part 19 2 fs))) go) (λ k. ((ShowsCarry (part 19 2 fs) → ⊥) × (k ≡ i)) ⊎ (ShowsCarry (part 19 2 fs) × Q k))
  carry_field i go Q more =
      let bs = part 19 2 fs in
      one_field i (flag (number_in bs)) go (ShowsCarry bs) Q (carry_none bs) (λ b e. (b, carry_right 2 bs b (length_part fs 19 2 (omega arith)) e)) (λ b _. more b)

  letter_field : {Y : Type 0} (i : ℕ) (go : Letter → Result Y ℕ) (Q : ℕ → Type 0) → ((x : Letter) → Faults (go x) Q)
      → Faults (field i (letter_in (part 21 2 fs)) go) (λ k. ((ShowsLetter (part 21 2 fs) → ⊥) × (k ≡ i)) ⊎ (ShowsLetter (part 21 2 fs) × Q k))
  letter_field i go Q more =
      let bs = part 21 2 fs in
      one_field i (letter_in bs) go (ShowsLetter bs) Q (letter_none bs) (λ x e. (x, letter_right 2 bs x (length_part fs 21 2 (omega arith)) e)) (λ x _. more x)

  faults : (n : ℕ) (w : Word) (k : ℕ) → (unread (shown n (Some w) fs) ≡ Some k) ↔ FirstUnread 1 (fields_show w fs) (RestShows w fs) k
  faults n Word.goal =
      number_field 1 0 (omega arith) _ _ (λ c. number_field 2 6 (omega arith) _ _ (λ h. blank_rest (part 12 18 fs) (Goal c h)))
  faults n Word.act =
      number_field 1 0 (omega arith) _ _ (λ s. number_field 2 6 (omega arith) _ _ (λ e.
      place_field 3 83 12 4 (omega arith) (omega arith) (omega arith) (omega arith) (omega arith) _ _ (λ fc.
      place_field 4 83 16 3 (omega arith) (omega arith) (omega arith) (omega arith) (omega arith) _ _ (λ fh.
      carry_field 5 _ _ (λ b. letter_field 6 _ _ (λ x.
      place_field 7 69 23 4 (omega arith) (omega arith) (omega arith) (omega arith) (omega arith) _ _ (λ tc.
      place_field 8 69 27 3 (omega arith) (omega arith) (omega arith) (omega arith) (omega arith) _ _ (λ th.
      no_rest (Act (record { line = n; start = s; end = e; from = record { column = fc; height = fh }; carry = b; letter = x; to = record { column = tc; height = th } }))))))))))
  faults n Word.note = no_rest Note
  faults n Word.end = number_field 1 0 (omega arith) _ _ (λ c. blank_rest (part 6 24 fs) (End c))

pub first_unread : (n : ℕ) (l : List ℕ) → length l ≡ 35 → (w : Word) → word_in l ≡ Some w → (k : ℕ)
    → (bad_field n l ≡ Some k) ↔ FirstUnread 1 (fields_show w (fields l)) (RestShows w (fields l)) k
first_unread n l long w e k =
    let P : Option Word → Type 0 = λ o. (unread (shown n o (fields l)) ≡ Some k) ↔ FirstUnread 1 (fields_show w (fields l)) (RestShows w (fields l)) k in
    subst P (sym e) (faults (fields l) (length_fields l long) n w k)
