-- Which timesteps a span holds. Assumes nothing.
use Rattle.std.specs.Prelude.{ℕ, ◌<◌, ◌≤◌, Bool, ◌&&◌, nat_le, nat_lt}

-- from the start up to, but not including, the end
abbrev pub Holds : ℕ → ℕ → ℕ → Type 0
Holds start end t = (start ≤ t) × (t < end)

abbrev pub held : ℕ → ℕ → ℕ → Bool
held start end t = nat_le start t && nat_lt t end
