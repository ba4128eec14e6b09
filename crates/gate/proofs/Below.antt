-- Sums and searches below a number, and what chains find. Assumes nothing.
use Rattle.std.proofs.Common.{◌≡◌, ℕ, zero, suc, ◌+◌, ◌<◌, ◌≤◌, Bool, true, false, cond, ◌||◌, List, length, get_or, take, Some, None, MatchOption, Decides, Option, sym, refl, ap, ◌∙◌, inl, inr, add-one, arith}
use Rattle.std.specs.List.{sum_by, count_by, list_any, range_with_len}
use Rattle.std.proofs.lemmas.List.{take_all}
use Rattle.std.proofs.lemmas.List.Sums.{sum_by_more}
use Rattle.std.proofs.lemmas.List.Folds.{list_any_more}
use Rattle.std.proofs.lemmas.List.FromFn.{length-range_with_len, get_or-range_with_len}
use Rattle.std.proofs.lemmas.Bool.{both_ways, cases_lt}
use Rattle.ways.proofs.Firsts.{first_some, first_there}
use Rattle.gate.proofs.Sums.{sum_same}
use Rattle.std.proofs.lemmas.Bool.{or_from}
use Rattle.std.proofs.lemmas.Bool.Decides.{Decides-below_or}
use Rattle.ways.specs.Table.{first_below}
use Rattle.gate.specs.Scene.{sum_below, one_if, any_below}

-- whether a test passes below a number
pub none_any : (p : ℕ → Bool) (n : ℕ) → ((k : ℕ) → k < n → p k ≡ false) → any_below p n ≡ false
none_any p zero h = refl
none_any p (suc n) h = or_from (p n) (any_below p n) (h n (omega arith)) (none_any p n (λ k l. h k (omega arith)))

pub any_decides : (p : ℕ → Bool) (n : ℕ) → Decides (any_below p n) ((k : ℕ) × (k < n) × (p k ≡ true))
any_decides p n = Decides-below_or p (λ c. p c ≡ true) (any_below p) (λ c. (λ i. i, λ i. i)) refl (λ _. refl) n

-- what a chain finds in a list, by its places
module _ {X : Type 0} (xs : List X) (d : X) where
  sum_taken : (f : X → ℕ) (n : ℕ) → n ≤ length xs → sum_by f (take n xs) ≡ sum_below (λ c. f (get_or xs c d)) n
  sum_taken f zero h = refl
  sum_taken f (suc n) h =
      let shift : sum_by f (take (suc n) xs) ≡ sum_by f (take (n + 1) xs) = ap (λ k. sum_by f (take k xs)) (sym (add-one n)) in
      omega (arith, shift, sum_by_more f xs n d (omega arith), sum_taken f n (omega arith))

  pub sum_listed : (f : X → ℕ) → sum_by f xs ≡ sum_below (λ c. f (get_or xs c d)) (length xs)
  sum_listed f = ap (sum_by f) (sym (take_all (length xs) xs (omega arith))) ∙ sum_taken f (length xs) (omega arith)

  one_for : (b : Bool) → cond b 1 0 ≡ one_if b
  one_for true = refl
  one_for false = refl

  pub count_listed : (p : X → Bool) → count_by p xs ≡ sum_below (λ c. one_if (p (get_or xs c d))) (length xs)
  count_listed p =
      sum_listed (λ x. cond (p x) 1 0)
      ∙ sum_same (λ c. cond (p (get_or xs c d)) 1 0) (λ c. one_if (p (get_or xs c d))) (length xs) (λ k l. one_for (p (get_or xs k d)))

  turned : (a b : Bool) → (a || b) ≡ (b || a)
  turned true true = refl
  turned true false = refl
  turned false true = refl
  turned false false = refl

  any_taken : (p : X → Bool) (n : ℕ) → n ≤ length xs → list_any p (take n xs) ≡ any_below (λ c. p (get_or xs c d)) n
  any_taken p zero h = refl
  any_taken p (suc n) h =
      ap (λ k. list_any p (take k xs)) (sym (add-one n)) ∙ list_any_more p xs n d (omega arith) ∙ turned (list_any p (take n xs)) (p (get_or xs n d))
      ∙ ap (λ b. p (get_or xs n d) || b) (any_taken p n (omega arith))

  pub any_listed : (p : X → Bool) → list_any p xs ≡ any_below (λ c. p (get_or xs c d)) (length xs)
  any_listed p = ap (list_any p) (sym (take_all (length xs) xs (omega arith))) ∙ any_taken p (length xs) (omega arith)

-- what a chain finds in the numbers below n
pub sum_ranged : (f : ℕ → ℕ) (n : ℕ) → sum_by f (range_with_len 0 n) ≡ sum_below f n
sum_ranged f n =
    sum_listed (range_with_len 0 n) 0 f ∙ ap (sum_below (λ c. f (get_or (range_with_len 0 n) c 0))) (length-range_with_len 0 n)
    ∙ sum_same (λ c. f (get_or (range_with_len 0 n) c 0)) f n (λ k l. ap f (get_or-range_with_len 0 n k 0 l ∙ omega arith))

-- the first number that passes a test
pub found_first : (p : ℕ → Bool) (n : ℕ) (o : Option ℕ)
    → MatchOption o ((k : ℕ) → 0 ≤ k → k < n → p k ≡ false) (λ i. (0 ≤ i) × (i < n) × (p i ≡ true) × ((k : ℕ) → 0 ≤ k → k < i → p k ≡ false))
    → o ≡ first_below p n
found_first p n None h = go (first_below p n) refl
  where
    go : (o : Option ℕ) → first_below p n ≡ o → None ≡ first_below p n
    go None e = sym e
    go (Some k) e = let s = first_some p n k e in absurd (both_ways (p k) (h k (omega arith) s.1) s.0)
found_first p n (Some i) h =
    let t = first_there p n i h.1 h.2 in
    let s = first_some p n t.0 t.1 in
    let same : i ≡ t.0 = elim (cases_lt i t.0) [
      | inl l ↦ absurd (both_ways (p i) (s.2 i l) h.2)
      | inr g ↦ elim (cases_lt t.0 i) [ inl l ↦ absurd (both_ways (p t.0) (h.3 t.0 (omega arith) l) s.0) | inr l ↦ omega arith ]
    ] in
    ap Some same ∙ sym t.1
