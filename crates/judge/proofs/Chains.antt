-- The first refusal of a list of tests, one test or one run of tests after another. Assumes nothing.
use Rattle.std.proofs.Common.{◌≡◌, ℕ, zero, suc, ◌+◌, ◌<◌, ◌≤◌, Bool, true, false, cond, ◌⊎◌, List, [], ◌∷◌, ◌++◌, length, get_or, Some, None, MatchOption, Option, refl, ap, ◌∙◌, inl, inr, arith}
use Rattle.std.specs.Option.{option_map}
use Rattle.std.proofs.lemmas.Bool.{cases_eq}
use Rattle.terms.specs.Refusals.{Told, first_of, from_on, or_else}
use Rattle.judge.specs.Finding.{find}

-- a test that fails or holds, a run of tests that finds nothing or something
pub pass : (b : Bool) (t : Told) (o : Option Told) → b ≡ false → cond b (Some t) o ≡ o
pass b t o e = ap (λ (x : Bool). cond x (Some t) o) e

pub stop : (b : Bool) (t : Told) (o : Option Told) → b ≡ true → cond b (Some t) o ≡ Some t
stop b t o e = ap (λ (x : Bool). cond x (Some t) o) e

pub on : (l o : Option Told) → l ≡ None → or_else l o ≡ o
on l o e = ap (λ (x : Option Told). or_else x o) e

pub off : (l o : Option Told) (t : Told) → l ≡ Some t → or_else l o ≡ Some t
off l o t e = ap (λ (x : Option Told). or_else x o) e

shift : {X : Type 0} (f : ℕ → List X) (i n : ℕ) → from_on f (suc i) n ≡ from_on (λ j. f (suc j)) i n
shift {X} f i zero = refl
shift {X} f i (suc n) = ap (λ (xs : List X). f (suc i) ++ xs) (shift f (suc i) n)

-- tests of the elements of a list: the first that passes
pub first_found : {X : Type 0} (p : X → Bool) (tells : X → Told) (d : X) (xs : List X)
    → first_of (from_on (λ i. (p (get_or xs i d), tells (get_or xs i d)) ∷ []) 0 (length xs)) ≡ option_map tells (find p xs)
first_found p tells d [] = refl
first_found p tells d (x ∷ xs) =
    go (p x) (ap first_of (shift (λ i. (p (get_or (x ∷ xs) i d), tells (get_or (x ∷ xs) i d)) ∷ []) 0 (length xs)) ∙ first_found p tells d xs)
  where
    go : (b : Bool) {o : Option Told} → o ≡ option_map tells (find p xs) → cond b (Some (tells x)) o ≡ option_map tells (cond b (Some x) (find p xs))
    go true e = refl
    go false e = e

-- tests of the numbers from i on: the lowest that passes, or none
module _ (q : ℕ → Bool) (tells : ℕ → Told) where
  pub lowest_from : (k i c : ℕ) → i ≤ c → c < i + k → q c ≡ true → ((d : ℕ) → i ≤ d → d < c → q d ≡ false)
      → first_of (from_on (λ j. (q j, tells j) ∷ []) i k) ≡ Some (tells c)
  lowest_from zero i c l h y below = absurd (omega arith)
  lowest_from (suc k) i c l h y below = go (cases_eq i c) (lowest_from k (suc i) c)
    where
      go : (i ≡ c) ⊎ (i ≡ c → ⊥)
          → (suc i ≤ c → c < suc i + k → q c ≡ true → ((d : ℕ) → suc i ≤ d → d < c → q d ≡ false) → first_of (from_on (λ j. (q j, tells j) ∷ []) (suc i) k) ≡ Some (tells c))
          → first_of (from_on (λ j. (q j, tells j) ∷ []) i (suc k)) ≡ Some (tells c)
      go (inl e) ih = stop (q i) (tells i) _ (ap q e ∙ y) ∙ ap (λ (x : ℕ). Some (tells x)) e
      go (inr n) ih = pass (q i) (tells i) _ (below i (omega arith) (omega arith)) ∙ ih (omega arith) (omega arith) y (λ d g b. below d (omega arith) b)

  pub nothing_from : (k i : ℕ) → ((d : ℕ) → i ≤ d → d < i + k → q d ≡ false) → first_of (from_on (λ j. (q j, tells j) ∷ []) i k) ≡ None
  nothing_from zero i none = refl
  nothing_from (suc k) i none =
      pass (q i) (tells i) _ (none i (omega arith) (omega arith)) ∙ nothing_from k (suc i) (λ d g b. none d (omega arith) (omega arith))

  -- what a search over the numbers below n finds
  pub first_below : (n : ℕ) (o : Option ℕ)
      → MatchOption o ((k : ℕ) → 0 ≤ k → k < n → q k ≡ false) (λ i. (0 ≤ i) × (i < n) × (q i ≡ true) × ((k : ℕ) → 0 ≤ k → k < i → q k ≡ false))
      → first_of (from_on (λ j. (q j, tells j) ∷ []) 0 n) ≡ option_map tells o
  first_below n None none = nothing_from n 0 (λ d g b. none d g (omega arith))
  first_below n (Some i) (g, l, y, below) = lowest_from n 0 i g (omega arith) y below
