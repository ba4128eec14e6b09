-- A tick goes over all columns alike. Assumes nothing.
use Rattle.std.proofs.Common.{◌≡◌, ℕ, zero, suc, [], ◌∷◌, refl}
use Rattle.gate.specs.Column.{ticked}
use Rattle.gate.specs.Scene.{Columns, at, tick_all}

pub at_tick : (xs : Columns) (c : ℕ) → at (tick_all xs) c ≡ ticked (at xs c)
at_tick [] c = refl
at_tick (x ∷ xs) zero = refl
at_tick (x ∷ xs) (suc c) = at_tick xs c
