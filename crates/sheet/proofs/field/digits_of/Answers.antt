use Rattle.std.proofs.Common.{ℕ, ◌^◌, ◌≤◌, arith, lit<}
use native.Mathlib.Nat.{pow-le-pow_right}
use Rattle.sheet.proofs.field.digits_of.Goals as goal

-- Before a ninth digit a number is below 10 ^ 8.
small : (i : ℕ) → i ≤ 8 → 10 ^ i ≤ 100000000
small i h = pow-le-pow_right {n = 10} (lit< tt) h

pub overflow_mul-value : goal.overflow_mul-value
overflow_mul-value c = omega (arith, small c.loop-b.b-index (omega arith))

pub overflow_add-value : goal.overflow_add-value
overflow_add-value c = omega (arith, small c.loop-b.b-index (omega arith), c.in_ok-value.ensures)
