-- What a ground is: its columns, which of them are border, and which are linked. Assumes nothing.
use Rattle.std.specs.Prelude.{◌≡◌, ℕ, ◌<◌, ◌≤◌, Bool, true, false, List, filter}
use Rattle.std.specs.List.{range_with_len}

-- columns are numbered from 0
pub record Meaning : Type 0 where
  pub columns : ℕ
  pub border : ℕ → Bool
  pub linked : ℕ → ℕ → Bool

-- the columns that are linked with c, in rising order
abbrev pub neighbours : Meaning → ℕ → List ℕ
neighbours m c = filter (m.linked c) (range_with_len 0 m.columns)

-- what every ground obeys
pub record Lawful (m : Meaning) : Type 0 where
  pub some : 1 ≤ m.columns
  pub few : m.columns ≤ 256
  pub at_border : (c : ℕ) → m.border c ≡ true → c < m.columns
  pub within : (c d : ℕ) → m.linked c d ≡ true → d < m.columns
  pub both_ways : (c d : ℕ) → m.linked c d ≡ true → m.linked d c ≡ true
  pub no_loop : (c : ℕ) → m.linked c c ≡ false

-- two meanings that say the same of every column
pub record Same (m n : Meaning) : Type 0 where
  pub columns : m.columns ≡ n.columns
  pub border : (c : ℕ) → m.border c ≡ n.border c
  pub linked : (c d : ℕ) → m.linked c d ≡ n.linked c d
