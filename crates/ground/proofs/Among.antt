-- A column is linked with just those that are its neighbours. Assumes nothing.
use Rattle.std.proofs.Common.{◌≡◌, ℕ, zero, suc, ◌+◌, ◌<◌, ◌≤◌, true, false, ◌&&◌, ◌||◌, eqb, List, [], ◌∷◌, drop, Some, sym, ap, ◌∙◌, ⊎_elim, arith}
use Rattle.std.specs.List.{range_with_len, list_any, slice_get}
use Rattle.std.proofs.lemmas.Map.Views.{any-filter_same}
use Rattle.std.proofs.lemmas.Bool.{and_left, cases_Bool, cases_eq, eq-eqb, eqb-true, ne_eqb}
use Rattle.ground.specs.Meaning.{Meaning, Lawful, neighbours}

in_range : (d n a : ℕ) → a ≤ d → d < a + n → list_any (λ x. eqb x d) (range_with_len a n) ≡ true
in_range d zero a low high = absurd (omega arith)
in_range d (suc n) a low high =
    ⊎_elim
    (λ (here : a ≡ d). ap (λ b. b || list_any (λ x. eqb x d) (range_with_len (a + 1) n)) (eq-eqb a d here))
    (λ (later : a ≡ d → ⊥). ap (λ b. b || list_any (λ x. eqb x d) (range_with_len (a + 1) n)) (ne_eqb a d later) ∙ in_range d n (a + 1) (omega arith) (omega arith))
    (cases_eq a d)

pub linked_among : (m : Meaning) (c d : ℕ) → Lawful m → list_any (λ x. eqb x d) (neighbours m c) ≡ m.linked c d
linked_among m c d law =
    any-filter_same (λ x. eqb x d) (m.linked c) (m.linked c d) (λ k e. ap (m.linked c) (eqb-true k d e)) (range_with_len 0 m.columns) ∙
    ⊎_elim
    (λ (t : m.linked c d ≡ true). ap (λ b. b && list_any (λ x. eqb x d) (range_with_len 0 m.columns)) t ∙ in_range d m.columns 0 (omega arith) (omega (arith, law.within c d t)) ∙ sym t)
    (λ (f : m.linked c d ≡ false). and_left (m.linked c d) _ f ∙ sym f)
    (cases_Bool (m.linked c d))

-- the next item in front of those that are left
pub next_item : (xs : List ℕ) (k d : ℕ) → slice_get xs k ≡ Some d → drop k xs ≡ d ∷ drop (k + 1) xs
next_item [] k d h = let z : ◌≡◌ {A = ℕ} 0 1 = cc in absurd (omega arith)
next_item (x ∷ xs) zero d h = let e : x ≡ d = cc in ap (λ y. y ∷ xs) e
next_item (x ∷ xs) (suc k) d h = next_item xs k d h ∙ ap (λ n. d ∷ drop n (x ∷ xs)) plus
  where
    plus : suc (k + 1) ≡ suc k + 1
    plus = omega arith
