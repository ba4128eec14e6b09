-- Obeying recall so many times. Assumes nothing.
use Rattle.std.proofs.Common.{◌≡◌, ℕ, suc, ◌-◌, ◌+◌, ◌<◌, ap, ◌∙◌, arith}
use Rattle.gate.specs.Recall.{recall}
use Rattle.gate.specs.Scene.{Scene}
use Rattle.console.specs.Halls.{home, obeyed}

-- once, of those that are left
pub home_on : (v w : Scene) (n i : ℕ) → i < n → w ≡ obeyed v (recall v) → home (n - (i + 1)) w ≡ home (n - i) v
home_on v w n i l e =
    let here : suc (n - (i + 1)) ≡ n - i = omega (arith, l) in
    ap (home (n - (i + 1))) e ∙ ap (λ k. home k v) here
