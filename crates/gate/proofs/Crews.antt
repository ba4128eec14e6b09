-- A count of the numbers below n is the length of the longest rising list of numbers that count. Assumes nothing.
use Rattle.std.proofs.Common.{◌≡◌, ℕ, zero, suc, ◌+◌, ◌<◌, ◌≤◌, Bool, true, false, ◌⊎◌, List, [], ◌∷◌, length, Decides, refl, ap, inl, inr, arith}
use Rattle.std.proofs.lemmas.Bool.{cases_eq}
use Rattle.std.specs.List.{AllByRecursion}
use Rattle.ground.specs.Rises.{Rising, rising_lower}
use Rattle.gate.specs.Scene.{one_if, sum_below}

module _ (p : ℕ → Bool) where
  abbrev count : ℕ → ℕ
  count n = sum_below (λ c. one_if (p c)) n

  -- below n, and counted
  abbrev Counts : ℕ → ℕ → Type 0
  Counts n c = (c < n) × (p c ≡ true)

  grows : (a n : ℕ) → a ≤ n → count a ≤ count n
  grows a zero l = let e : a ≡ 0 = omega arith in omega (arith, ap count e)
  grows a (suc n) l = go (cases_eq a (suc n)) (grows a n)
    where
      go : (a ≡ suc n) ⊎ (a ≡ suc n → ⊥) → (a ≤ n → count a ≤ count n) → count a ≤ count (suc n)
      go (inl e) ih = omega (arith, ap count e)
      go (inr e) ih = omega (arith, ih (omega arith))

  counts_one : (c : ℕ) → p c ≡ true → count (suc c) ≡ suc (count c)
  counts_one c e = omega (arith, ap one_if e)

  from_there : (n a : ℕ) (rs : List ℕ) → a ≤ n → Rising a rs → AllByRecursion (Counts n) rs → count a + length rs ≤ count n
  from_there n a [] l r h = omega (arith, grows a n l)
  from_there n a (x ∷ xs) l r h =
      let ih = from_there n (suc x) xs (omega (arith, h.0.0)) r.1 h.1 in
      omega (arith, grows a x r.0, counts_one x h.0.1, ih)

  pub no_longer : (n : ℕ) (rs : List ℕ) → Rising 0 rs → AllByRecursion (Counts n) rs → length rs ≤ count n
  no_longer n rs r h = omega (arith, from_there n 0 rs (omega arith) r h)

  abbrev Gathers : ℕ → ℕ → Type 0
  Gathers n a = (rs : List ℕ) × Rising a rs × AllByRecursion (Counts n) rs × (count a + length rs ≡ count n)

  gathers : (k a n : ℕ) → a + k ≡ n → Gathers n a
  gathers zero a n e = let i : a ≡ n = omega arith in ([], tt, tt, omega (arith, ap count i))
  gathers (suc k) a n e = go (p a) refl (gathers k (suc a) n (omega arith))
    where
      go : (b : Bool) → p a ≡ b → Gathers n (suc a) → Gathers n a
      go true t g = (a ∷ g.0, (omega arith, g.1), ((omega arith, t), g.2), omega (arith, counts_one a t, g.3))
      go false t g = (g.0, rising_lower a (suc a) g.0 (omega arith) g.1, g.2, omega (arith, ap one_if t, g.3))

  -- so many or more are counted exactly where a rising list of them is so long
  pub decides_many : (n most : ℕ) (b : Bool) → Decides b (most ≤ count n) → Decides b ((rs : List ℕ) × Rising 0 rs × AllByRecursion (Counts n) rs × (most ≤ length rs))
  decides_many n most b d = (
    λ e. let g = gathers n 0 n (omega arith) in let l = d.0 e in (g.0, g.1, g.2, omega (arith, g.3)),
    λ h. d.1 (let w = no_longer n h.0 h.1 h.2 in omega (arith, h.3)),
  )
