-- Numbers as they are written, in so many places. Assumes nothing.
use Rattle.std.specs.Prelude.{ℕ, ◌-◌, List, ◌++◌, length, replicate, decimal, drop}

-- n in decimal, justified to the right in w places: of a longer one the last w digits
abbrev pub justified : ℕ → ℕ → List ℕ
justified w n = replicate (w - length (decimal n)) 32 ++ drop (length (decimal n) - w) (decimal n)
