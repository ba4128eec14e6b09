-- The ways home from a column, in the subject's own words. Assumes nothing.
use Rattle.std.specs.Prelude.{◌≡◌, ℕ, suc, ◌≤◌, Bool, true, false, Some, None, Option}
use Rattle.ground.specs.Meaning.{Meaning}

-- how the ground lies: the height of each column, and whether it is changing
pub record Relief : Type 0 where
  pub heights : ℕ → ℕ
  pub changing : ℕ → Bool

abbrev pub Settled : Relief → ℕ → Type 0
Settled r c = r.changing c ≡ false

-- heights that differ by at most one
pub record Near (a b : ℕ) : Type 0 where
  pub up : b ≤ suc a
  pub down : a ≤ suc b

-- a way home from column c in n steps: along links to the border, each step by at most one in height, every column settled
pub data Way (m : Meaning) (r : Relief) : ℕ → ℕ → Type 0 where
  home : {c : ℕ} → m.border c ≡ true → Settled r c → Way m r c 0
  onward : {c d n : ℕ} → m.linked c d ≡ true → Near (r.heights c) (r.heights d) → Settled r c → Way m r d n → Way m r c (suc n)

-- n is the least number of steps of a way home from c
pub record Fewest (m : Meaning) (r : Relief) (c n : ℕ) : Type 0 where
  pub way : Way m r c n
  pub least : (k : ℕ) → Way m r c k → n ≤ k

abbrev pub NoWay : Meaning → Relief → ℕ → Type 0
NoWay m r c = (n : ℕ) → Way m r c n → ⊥

-- the number told of column c: its fewest steps home, or none where it has no way
abbrev pub StepsHome : Meaning → Relief → ℕ → Option ℕ → Type 0
StepsHome m r c (Some n) = Fewest m r c n
StepsHome m r c None = NoWay m r c

-- column d is linked with c, within one height of it, and n steps from home
pub record Beside (m : Meaning) (r : Relief) (c n d : ℕ) : Type 0 where
  pub link : m.linked c d ≡ true
  pub near : Near (r.heights c) (r.heights d)
  pub steps : Fewest m r d n
