-- What the plainest tests decide. Assumes nothing.
use Rattle.std.proofs.Common.{◌≡◌, ℕ, ◌≤◌, Bool, true, false, not, leb, Decides}
use Rattle.std.proofs.lemmas.Bool.{le-leb, leb-true, not_from_false, not-true}

pub decides_leb : (a b : ℕ) → Decides (leb a b) (a ≤ b)
decides_leb a b = (leb-true a b, le-leb a b)

pub decides_is : (b : Bool) → Decides b (b ≡ true)
decides_is b = (λ e. e, λ e. e)

pub decides_isnt : (b : Bool) → Decides (not b) (b ≡ false)
decides_isnt b = (λ e. not-true b e, λ e. not_from_false b e)
