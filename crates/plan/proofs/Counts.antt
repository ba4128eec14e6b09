-- How many elements of a list pass a test, where tests agree or imply one another. Assumes nothing.
use Rattle.std.proofs.Common.{◌≡◌, ℕ, suc, ◌+◌, ◌<◌, ◌≤◌, Bool, true, false, cond, List, [], ◌∷◌, length, get_or, take, drop, count_by, refl, ap, ◌∙◌, arith, length-drop, get_or-drop}
use Rattle.std.proofs.lemmas.List.Sums.{sum_by-cons, sum_by-take-drop}

abbrev pub unit : Bool → ℕ
unit b = cond b 1 0

module _ {X : Type 0} where
  pub count_by_cons : (p : X → Bool) (x : X) (xs : List X) → count_by p (x ∷ xs) ≡ unit (p x) + count_by p xs
  count_by_cons p x xs = sum_by-cons (λ y. cond (p y) 1 0) x xs

  pub count_same : (p q : X → Bool) (d : X) (xs : List X) → ((i : ℕ) → i < length xs → p (get_or xs i d) ≡ q (get_or xs i d)) → count_by p xs ≡ count_by q xs
  count_same p q d [] h = refl
  count_same p q d (x ∷ xs) h =
      let ih = count_same p q d xs (λ i l. h (suc i) (omega arith)) in
      omega (arith, count_by_cons p x xs, count_by_cons q x xs, ap unit (h 0 (omega arith)))

  pub count_none : (p : X → Bool) (d : X) (xs : List X) → ((i : ℕ) → i < length xs → p (get_or xs i d) ≡ false) → count_by p xs ≡ 0
  count_none p d [] h = refl
  count_none p d (x ∷ xs) h =
      let ih = count_none p d xs (λ i l. h (suc i) (omega arith)) in
      omega (arith, count_by_cons p x xs, ap unit (h 0 (omega arith)))

  -- whatever passes p passes q
  pub count_le : (p q : X → Bool) (d : X) (xs : List X) → ((i : ℕ) → i < length xs → p (get_or xs i d) ≡ true → q (get_or xs i d) ≡ true) → count_by p xs ≤ count_by q xs
  count_le p q d [] h = omega arith
  count_le p q d (x ∷ xs) h =
      let ih = count_le p q d xs (λ i l. h (suc i) (omega arith)) in
      let here : unit (p x) ≤ unit (q x) = units (p x) (q x) (h 0 (omega arith)) in
      omega (arith, count_by_cons p x xs, count_by_cons q x xs)
    where
      units : (a b : Bool) → (a ≡ true → b ≡ true) → unit a ≤ unit b
      units true b h = let e = ap unit (h refl) in omega arith
      units false b h = omega arith

  -- where no element from k on counts, the first k are all that count
  pub count_front : (p : X → Bool) (d : X) (xs : List X) (k : ℕ) → ((i : ℕ) → k ≤ i → i < length xs → p (get_or xs i d) ≡ false)
      → count_by p (take k xs) ≡ count_by p xs
  count_front p d xs k h =
      let none = count_none p d (drop k xs)
      (λ i l. ap p (get_or-drop k xs i d) ∙ h (k + i) (omega arith) (omega (arith, length-drop k xs))) in
      omega (arith, sum_by-take-drop (λ x. cond (p x) 1 0) xs k)
