-- Rows with the border of a border list, that are filled one link at a time. Assumes nothing.
use Rattle.std.proofs.Common.{◌≡◌, ℕ, suc, ◌+◌, ◌<◌, ◌≤◌, cond, eqb, List, [], ◌∷◌, ◌++◌, length, get_or, take, set, Option, Some, None, sym, refl, ap, ◌∙◌, subst, ⊎_elim, arith}
use Rattle.std.specs.List.{flat_map}
use Rattle.std.proofs.lemmas.List.{append-nil, get_or_past, get_or-set_other, get_or-set_same, flat_map_more, length-set, take_more}
use Rattle.std.proofs.lemmas.Bool.{cases_eq, cases_lt, cond-false, cond-true, eq-eqb, ne_eqb}
use Rattle.std.proofs.lemmas.Bool.Decides.{nat_tests}
use Rattle.ground.specs.Listing.{Link}
use Rattle.ground.specs.Members.{somes}
use Rattle.ground.specs.Table.{Filled, Packed, entries, fill, no_row, other, with_link}
use Rattle.ground.specs.declared.row.Row.{Row}

-- what holds of each row after one is replaced
put : (P : ℕ → Row → Type 0) (rows : List Row) (i : ℕ) (v : Row) → i < length rows → P i v → ((c : ℕ) → P c (get_or rows c no_row)) → (c : ℕ) → P c (get_or (set rows i v) c no_row)
put P rows i v lt here old c =
    ⊎_elim
    (λ (e : c ≡ i). subst (λ x. P x (get_or (set rows i v) x no_row)) (sym e) (subst (P i) (sym (get_or-set_same rows i v no_row lt)) here))
    (λ (ne : c ≡ i → ⊥). subst (P c) (sym (get_or-set_other rows i c v no_row ne)) (old c))
    (cases_eq c i)

-- the same, where the others are known to be others
put_else : (P : ℕ → Row → Type 0) (rows : List Row) (i : ℕ) (v : Row) → i < length rows → P i v → ((c : ℕ) → (c ≡ i → ⊥) → P c (get_or rows c no_row)) → (c : ℕ) → P c (get_or (set rows i v) c no_row)
put_else P rows i v lt here old c =
    ⊎_elim
    (λ (e : c ≡ i). subst (λ x. P x (get_or (set rows i v) x no_row)) (sym e) (subst (P i) (sym (get_or-set_same rows i v no_row lt)) here))
    (λ (ne : c ≡ i → ⊥). subst (P c) (sym (get_or-set_other rows i c v no_row ne)) (old c ne))
    (cases_eq c i)

-- the row that a border list gives a column
abbrev pub bare : List ℕ → ℕ → Row
bare border c = record { border = eqb (get_or border c 0) 1; to = None ∷ None ∷ None ∷ None ∷ None ∷ None ∷ [] }

pub filled_none : (border : List ℕ) (rows : List Row) → length border ≤ 256 → length rows ≡ 256 → ((c : ℕ) → c < 256 → get_or rows c no_row ≡ bare border c) → Filled border (λ _. []) rows
filled_none border rows few long each = record {
  long = long;
  wide = λ c lt. ap (λ r. length r.to) (each c lt);
  packed = λ c. in_or_past (λ r. Packed r.to) c (λ lt. refl) tt;
  bordered = λ c. ⊎_elim
      (λ (lt : c < 256). ap (λ r. r.border) (each c lt))
      (λ (ge : 256 ≤ c). ap (λ r. r.border) (get_or_past rows c no_row (omega (arith, long))) ∙ sym (ap (λ b. eqb b 1) (get_or_past border c 0 (omega arith))))
      (cases_lt c 256);
  keeps = λ c lt. ap entries (each c lt);
}
  where
    in_or_past : (P : Row → Type 0) (c : ℕ) → (c < 256 → P (bare border c)) → P no_row → P (get_or rows c no_row)
    in_or_past P c f n =
        ⊎_elim
        (λ (lt : c < 256). subst P (sym (each c lt)) (f lt))
        (λ (ge : 256 ≤ c). subst P (sym (get_or_past rows c no_row (omega (arith, long)))) n)
        (cases_lt c 256)

fill_long : (d : ℕ) (os : List (Option ℕ)) → length (fill d os) ≡ length os
fill_long d [] = refl
fill_long d (Some x ∷ os) = ap suc (fill_long d os)
fill_long d (None ∷ os) = refl

fill_packed : (d : ℕ) (os : List (Option ℕ)) → Packed os → Packed (fill d os)
fill_packed d [] p = tt
fill_packed d (Some x ∷ os) p = fill_packed d os p
fill_packed d (None ∷ os) p = behind os p
  where
    behind : (ps : List (Option ℕ)) → somes ps ≡ [] → Packed ps
    behind [] e = tt
    behind (Some x ∷ ps) e = let z : ◌≡◌ {A = ℕ} (length (x ∷ somes ps)) 0 = ap length e in absurd (omega arith)
    behind (None ∷ ps) e = e

fill_more : (d : ℕ) (os : List (Option ℕ)) → Packed os → length (somes os) < length os → somes (fill d os) ≡ somes os ++ d ∷ []
fill_more d [] p h = absurd (omega arith)
fill_more d (Some x ∷ os) p h = ap (λ xs. x ∷ xs) (fill_more d os p (omega arith))
fill_more d (None ∷ os) p h = ap (λ xs. d ∷ xs) p ∙ ap (λ xs. xs ++ d ∷ []) (sym p)

-- one entry more in the row of a column
filled_entry : (border : List ℕ) (f : ℕ → List ℕ) (rows : List Row) (from d : ℕ) → from < 256 → length (entries (get_or rows from no_row)) < 6 → Filled border f rows → Filled border (λ c. cond (eqb c from) (f c ++ d ∷ []) (f c)) (set rows from (with_link (get_or rows from no_row) d))
filled_entry border f rows from d small room was =
    let lt : from < length rows = omega (arith, was.long) in
    let old = get_or rows from no_row in
    let new = with_link (get_or rows from no_row) d in
    record {
      long = length-set rows from new ∙ was.long;
      wide = put (λ c r. c < 256 → length r.to ≡ 6) rows from new lt (λ h. fill_long d old.to ∙ was.wide from h) was.wide;
      packed = put (λ c r. Packed r.to) rows from new lt (fill_packed d old.to (was.packed from)) was.packed;
      bordered = put (λ c r. r.border ≡ eqb (get_or border c 0) 1) rows from new lt (was.bordered from) was.bordered;
      keeps = put_else (λ c r. c < 256 → entries r ≡ cond (eqb c from) (f c ++ d ∷ []) (f c)) rows from new lt
          (λ h. fill_more d old.to (was.packed from) (omega (arith, was.wide from h)) ∙ ap (λ xs. xs ++ d ∷ []) (was.keeps from h) ∙ sym (cond-true (eqb from from) _ _ (eq-eqb from from refl)))
          (λ c ne h. was.keeps c h ∙ sym (cond-false (eqb c from) _ _ (ne_eqb c from ne)));
    }

filled_as : (border : List ℕ) (f g : ℕ → List ℕ) (rows : List Row) → ((c : ℕ) → f c ≡ g c) → Filled border f rows → Filled border g rows
filled_as border f g rows same was = record {
  long = was.long;
  wide = was.wide;
  packed = was.packed;
  bordered = was.bordered;
  keeps = λ c h. was.keeps c h ∙ same c;
}

-- both entries of a link together
both : (c l h : ℕ) (xs : List ℕ) → l < h → cond (eqb c h) (cond (eqb c l) (xs ++ h ∷ []) xs ++ l ∷ []) (cond (eqb c l) (xs ++ h ∷ []) xs) ≡ xs ++ cond (eqb h c) (l ∷ []) (cond (eqb l c) (h ∷ []) [])
both c l h xs lt = grind (arith, nat_tests, append-nil)

joined_next : (c : ℕ) (ks : List Link) (i : ℕ) → i < length ks → flat_map (other c) (take i ks) ++ other c (get_or ks i (0, 0)) ≡ flat_map (other c) (take (i + 1) ks)
joined_next c ks i lt = flat_map_more (other c) [] (take i ks) (get_or ks i (0, 0)) ∙ ap (flat_map (other c)) (sym (take_more ks i (0, 0) lt))

module _ (border : List ℕ) (ks : List Link) (rows : List Row) (i : ℕ) (was : Filled border (λ c. flat_map (other c) (take i ks)) rows) (lt : i < length ks) where
  abbrev l : ℕ
  l = (get_or ks i (0, 0)).0

  abbrev h : ℕ
  h = (get_or ks i (0, 0)).1

  pub filled_link : (first second : Row) → l < h → h < 256 → length (entries (get_or rows l no_row)) < 6 → length (entries (get_or rows h no_row)) < 6 → first ≡ with_link (get_or rows l no_row) h → second ≡ with_link (get_or (set rows l first) h no_row) l → Filled border (λ c. flat_map (other c) (take (i + 1) ks)) (set (set rows l first) h second)
  filled_link first second less small room_l room_h e_first e_second =
      let one = filled_entry border (λ c. flat_map (other c) (take i ks)) rows l h (omega arith) room_l was in
      let same : get_or (set rows l (with_link (get_or rows l no_row) h)) h no_row ≡ get_or rows h no_row = get_or-set_other rows l h (with_link (get_or rows l no_row) h) no_row (omega arith) in
      let two = filled_entry border (λ c. cond (eqb c l) (flat_map (other c) (take i ks) ++ h ∷ []) (flat_map (other c) (take i ks))) (set rows l (with_link (get_or rows l no_row) h)) h l small (omega (arith, ap (λ r. length (entries r)) same)) one in
      let three = filled_as border _ (λ c. flat_map (other c) (take (i + 1) ks)) _ (λ c. both c l h (flat_map (other c) (take i ks)) less ∙ joined_next c ks i lt) two in
      subst (λ r. Filled border (λ c. flat_map (other c) (take (i + 1) ks)) (set (set rows l first) h r)) (sym e_second)
      (subst (λ r. Filled border (λ c. flat_map (other c) (take (i + 1) ks)) (set (set rows l r) h (with_link (get_or (set rows l r) h no_row) l))) (sym e_first) three)
