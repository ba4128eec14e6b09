-- The first empty place of a row, and what filling it does. Assumes nothing.
use Rattle.std.proofs.Common.{◌≡◌, ℕ, suc, ◌+◌, ◌<◌, ◌≤◌, cond, not, ltb, List, [], ◌∷◌, length, set, is_none, Some, None, Option, refl, sym, ap, ◌∙◌, ⊎_elim, arith}
use Rattle.std.specs.List.{position, prefix_len}
use Rattle.std.proofs.lemmas.Bool.{cases_lt, cond-false, cond-true, le-ltb, lt-ltb}
use Rattle.ground.specs.Members.{somes}
use Rattle.ground.specs.Table.{entries, fill, with_link}
use Rattle.ground.specs.declared.row.Row.{Row}

abbrev empty_at : List (Option ℕ) → ℕ
empty_at os = prefix_len (λ (o : Option ℕ). not (is_none o)) os

set_next : (o p : Option ℕ) (os : List (Option ℕ)) (n : ℕ) → set (o ∷ os) (1 + n) p ≡ o ∷ set os n p
set_next o p os n = ap (λ k. set (o ∷ os) k p) next
  where
    next : 1 + n ≡ suc n
    next = omega arith

all_filled : (os : List (Option ℕ)) → length os ≤ empty_at os → length (somes os) ≡ length os
all_filled [] h = refl
all_filled (Some x ∷ os) h = ap suc (all_filled os (omega arith))
all_filled (None ∷ os) h = absurd (omega arith)

fills : (d : ℕ) (os : List (Option ℕ)) → empty_at os < length os → (set os (empty_at os) (Some d) ≡ fill d os) × (length (somes os) < length os)
fills d [] h = absurd (omega arith)
fills d (Some x ∷ os) h =
    let rest = fills d os (omega arith) in
    (set_next (Some x) (Some d) os (empty_at os) ∙ ap (λ ps. Some x ∷ ps) rest.0, omega (arith, rest.1))
fills d (None ∷ os) h = (refl, omega (arith, few os))
  where
    few : (ps : List (Option ℕ)) → length (somes ps) ≤ length ps
    few [] = omega arith
    few (Some x ∷ ps) = omega (arith, few ps)
    few (None ∷ ps) = omega (arith, few ps)

module _ (r : Row) (d : ℕ) (wide : length r.to ≡ 6) where
  abbrev tried : Option Row
  tried = cond (ltb (length (entries r)) 6) (Some (with_link r d)) None

  cases : (empty_at r.to < length r.to → position (λ o. is_none o) r.to ≡ Some (empty_at r.to)) × (length r.to ≤ empty_at r.to → position (λ o. is_none o) r.to ≡ None)
  cases = (λ lt. cond-true (ltb (empty_at r.to) (length r.to)) _ _ (lt-ltb (empty_at r.to) (length r.to) lt), λ ge. cond-false (ltb (empty_at r.to) (length r.to)) _ _ (le-ltb (empty_at r.to) (length r.to) ge))

  pub full_row : position (λ o. is_none o) r.to ≡ None → tried ≡ None
  full_row e =
      ⊎_elim
      (λ lt. let s : Some (empty_at r.to) ≡ None = sym (cases.0 lt) ∙ e in let z : ◌≡◌ {A = ℕ} 0 1 = cc in absurd (omega arith))
      (λ ge. cond-false (ltb (length (entries r)) 6) _ _ (le-ltb (length (entries r)) 6 (omega (arith, all_filled r.to ge))))
      (cases_lt (empty_at r.to) (length r.to))

  pub row_with_room : (i : ℕ) → position (λ o. is_none o) r.to ≡ Some i → tried ≡ Some (record { border = r.border; to = set r.to i (Some d) })
  row_with_room i e =
      ⊎_elim
      (λ lt.
      let at : empty_at r.to ≡ i = let s : Some (empty_at r.to) ≡ Some i = sym (cases.0 lt) ∙ e in cc in
      let filled = fills d r.to lt in
      cond-true (ltb (length (entries r)) 6) _ _ (lt-ltb (length (entries r)) 6 (omega (arith, filled.1))) ∙
      ap (λ ps. Some (record { border = r.border; to = ps })) (sym filled.0 ∙ ap (λ k. set r.to k (Some d)) at))
      (λ ge. let s : None ≡ Some i = sym (cases.1 ge) ∙ e in let z : ◌≡◌ {A = ℕ} 0 1 = cc in absurd (omega arith))
      (cases_lt (empty_at r.to) (length r.to))
