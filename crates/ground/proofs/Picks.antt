-- The places that are filled are those that a filter keeps. Assumes nothing.
use Rattle.std.proofs.Common.{◌≡◌, ℕ, zero, suc, ◌+◌, ◌-◌, ◌<◌, ◌≤◌, ltb, length, drop, List, [], ◌∷◌, get_or, Some, None, Option, refl, sym, ap, ◌∙◌, arith}
use Rattle.std.specs.List.{filter_map, slice_get}
use Rattle.std.specs.Option.{option_map}
use Rattle.std.proofs.lemmas.Bool.{cond-false, cond-true, le-ltb, lt-ltb}
use Rattle.ground.specs.Meaning.{neighbours}
use Rattle.std.proofs.lemmas.List.{at_drop_more}
use Rattle.ground.specs.Members.{onto, somes}
use Rattle.ground.specs.Table.{Packed, entries, in_row, no_row, tabled}
use Rattle.ground.specs.declared.row.Row.{Row}

pub somes_kept : (os : List (Option ℕ)) → filter_map (λ (o : Option ℕ). o) os ≡ somes os
somes_kept [] = refl
somes_kept (Some x ∷ os) = ap (λ xs. x ∷ xs) (somes_kept os)
somes_kept (None ∷ os) = somes_kept os

pub as_it_is : (o : Option ℕ) → option_map (λ (x : ℕ). x) o ≡ o
as_it_is None = refl
as_it_is (Some x) = refl

nth_next : (x : ℕ) (xs : List ℕ) (k : ℕ) → 0 < k → slice_get (x ∷ xs) k ≡ slice_get xs (k - 1)
nth_next x xs zero h = absurd (omega arith)
nth_next x xs (suc k) h = ap (slice_get xs) (omega arith)

-- picking from the front: the place of a turn, and those behind it
module _ (os : List (Option ℕ)) (i : ℕ) (lt : i < length os) where
  abbrev this : Option ℕ
  this = get_or os i None

  abbrev rest : List ℕ
  rest = somes (drop (i + 1) os)

  step : somes (drop i os) ≡ onto this rest
  step = at_drop_more somes os i None lt

  pub pick_here : (d k : ℕ) → this ≡ Some d → k ≡ 0 → slice_get (somes (drop i os)) k ≡ Some d
  pick_here d k e z = ap (λ xs. slice_get xs k) (step ∙ ap (λ o. onto o rest) e) ∙ ap (slice_get (d ∷ rest)) z

  pub pick_later : (d k : ℕ) → this ≡ Some d → 0 < k → slice_get (somes (drop i os)) k ≡ slice_get rest (k - 1)
  pick_later d k e pos = ap (λ xs. slice_get xs k) (step ∙ ap (λ o. onto o rest) e) ∙ nth_next d rest k pos

  pub pick_past : (k : ℕ) → this ≡ None → slice_get (somes (drop i os)) k ≡ slice_get rest k
  pick_past k e = ap (λ xs. slice_get xs k) (step ∙ ap (λ o. onto o rest) e)

none_filled : (os : List (Option ℕ)) (k : ℕ) → somes os ≡ [] → get_or os k None ≡ None
none_filled [] k e = refl
none_filled (Some x ∷ os) k e = absurd (omega (arith, ap length e))
none_filled (None ∷ os) zero e = refl
none_filled (None ∷ os) (suc k) e = none_filled os k e

-- where no place is filled behind an empty one, number k of those that are filled is place k
pub packed_at : (os : List (Option ℕ)) (k : ℕ) → Packed os → get_or os k None ≡ slice_get (somes os) k
packed_at [] k p = refl
packed_at (Some x ∷ os) zero p = refl
packed_at (Some x ∷ os) (suc k) p = packed_at os k p
packed_at (None ∷ os) k p = none_filled (None ∷ os) k p ∙ sym (ap (λ xs. slice_get xs k) p)

-- what a row tells of its column, and what there is past the last column
module _ (n : ℕ) (rows : List Row) (c : ℕ) (tell : neighbours (tabled n rows) c ≡ in_row n rows c) where
  pub told_inside : (places : List (Option ℕ)) → c < n → places ≡ (get_or rows c no_row).to → filter_map (λ (o : Option ℕ). o) places ≡ neighbours (tabled n rows) c
  told_inside places lt e = ap (filter_map (λ (o : Option ℕ). o)) e ∙ somes_kept (get_or rows c no_row).to ∙ sym (tell ∙ cond-true (ltb c n) (entries (get_or rows c no_row)) [] (lt-ltb c n lt))

  pub told_at : (k : ℕ) → c < n → get_or (get_or rows c no_row).to k None ≡ slice_get (entries (get_or rows c no_row)) k → get_or (get_or rows c no_row).to k None ≡ slice_get (neighbours (tabled n rows) c) k
  told_at k lt e = e ∙ sym (ap (λ xs. slice_get xs k) (tell ∙ cond-true (ltb c n) (entries (get_or rows c no_row)) [] (lt-ltb c n lt)))

  pub told_outside : n ≤ c → neighbours (tabled n rows) c ≡ []
  told_outside ge = tell ∙ cond-false (ltb c n) (entries (get_or rows c no_row)) [] (le-ltb c n ge)
