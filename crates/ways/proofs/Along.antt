-- A search along the links of a column is a search over all columns that are linked with it. Assumes nothing.
use Rattle.std.proofs.Common.{◌≡◌, ℕ, zero, suc, ◌+◌, Bool, true, false, cond, ◌&&◌, List, [], ◌∷◌, ◌++◌, Some, filter, sym, refl, ap, ◌∙◌, add-one, arith}
use Rattle.std.specs.List.{find, range_with_len}
use Rattle.std.proofs.lemmas.List.FromFn.{map-range_with_len_more}
use Rattle.std.proofs.lemmas.List.{map-id}
use Rattle.ground.specs.Meaning.{Meaning, neighbours}
use Rattle.ways.specs.Table.{first_below, or_at}

in_kept : (p q : ℕ → Bool) (xs : List ℕ) → find q (filter p xs) ≡ find (λ d. p d && q d) xs
in_kept p q [] = refl
in_kept p q (x ∷ xs) = go (p x) (in_kept p q xs)
  where
    go : (b : Bool) → find q (filter p xs) ≡ find (λ d. p d && q d) xs
        → find q (cond b (x ∷ filter p xs) (filter p xs)) ≡ cond (b && q x) (Some x) (find (λ d. p d && q d) xs)
    go true e = ap (λ o. cond (q x) (Some x) o) e
    go false e = e

in_push : (p : ℕ → Bool) (xs : List ℕ) (x : ℕ) → find p (xs ++ x ∷ []) ≡ or_at (find p xs) (p x) x
in_push p [] x = refl
in_push p (y ∷ ys) x = go (p y) (in_push p ys x)
  where
    go : (b : Bool) → find p (ys ++ x ∷ []) ≡ or_at (find p ys) (p x) x
        → cond b (Some y) (find p (ys ++ x ∷ [])) ≡ or_at (cond b (Some y) (find p ys)) (p x) x
    go true e = refl
    go false e = e

counting_push : (n : ℕ) → range_with_len 0 (suc n) ≡ range_with_len 0 n ++ n ∷ []
counting_push n =
    ap (range_with_len 0) (sym (add-one n)) ∙ sym (map-id (range_with_len 0 (n + 1))) ∙ map-range_with_len_more (λ x. x) 0 n n (omega arith) ∙ ap (λ l. l ++ n ∷ []) (map-id (range_with_len 0 n))

in_counting : (p : ℕ → Bool) (n : ℕ) → find p (range_with_len 0 n) ≡ first_below p n
in_counting p zero = refl
in_counting p (suc n) = ap (find p) (counting_push n) ∙ in_push p (range_with_len 0 n) n ∙ ap (λ o. or_at o (p n) n) (in_counting p n)

pub along : (m : Meaning) (c : ℕ) (q : ℕ → Bool) → find q (neighbours m c) ≡ first_below (λ d. m.linked c d && q d) m.columns
along m c q = in_kept (m.linked c) q (range_with_len 0 m.columns) ∙ in_counting (λ d. m.linked c d && q d) m.columns
