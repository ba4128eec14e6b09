-- The meaning of a square ground is the square, place by place. Assumes nothing.
use Rattle.std.specs.Prelude.{◌≡◌, ℕ, ◌+◌, ◌*◌, ◌/◌, ◌%◌, ◌<◌, true, Decides, nat_lt, refl}
use Rattle.std.proofs.Common.{ap, ◌∙◌, mul_comm, arith}
use Rattle.std.proofs.lemmas.Nat.{div-mul-add, mod-mul-add, mul-add-lt}
use Rattle.std.proofs.lemmas.Bool.{lt-ltb}
use Rattle.std.proofs.lemmas.Bool.Decides.{Decides-at, Decides-eqb, Decides-or}
use Rattle.ground.specs.Beside.{near_decides}
use Rattle.ground.specs.Squared.{IsSquare, Near, OnRim, near, on_rim, squared}

rim_decides : (x y i j : ℕ) → Decides (on_rim x y i j) (OnRim x y i j)
rim_decides x y i j =
    Decides-or _ _ (Decides-or _ _ (Decides-eqb i 0) (Decides-eqb (i + 1) x)) (Decides-or _ _ (Decides-eqb j 0) (Decides-eqb (j + 1) y))

module _ (x y : ℕ) where
  -- the column at (i, j) is there, and its number gives back i and j
  placed : (i j : ℕ) → i < x → j < y
      → (nat_lt (y * i + j) (x * y) ≡ true) × (((y * i + j) / y ≡ i) × ((y * i + j) % y ≡ j))
  placed i j below along =
      let turned : y * i + j ≡ i * y + j = ap (λ t. t + j) (mul_comm y i) in (
        lt-ltb (y * i + j) (x * y) (omega (arith, turned, mul-add-lt i y j x below along, mul_comm x y)),
        (ap (λ t. t / y) turned ∙ div-mul-add i y j along, ap (λ t. t % y) turned ∙ mod-mul-add i y j along),
      )

  border_decides : (i j : ℕ) → i < x → j < y → Decides ((squared x y).border (y * i + j)) (OnRim x y i j)
  border_decides i j below along =
      let p = placed i j below along in
      let there = p.0 in
      let row = p.1.0 in
      let place = p.1.1 in
      let told : (squared x y).border (y * i + j) ≡ on_rim x y i j = cc in
      Decides-at ((squared x y).border (y * i + j)) (on_rim x y i j) told (rim_decides x y i j)

  linked_decides : (i j k l : ℕ) → i < x → j < y → k < x → l < y
      → Decides ((squared x y).linked (y * i + j) (y * k + l)) (Near i j k l)
  linked_decides i j k l below along other_below other_along =
      let p = placed i j below along in
      let there = p.0 in
      let row = p.1.0 in
      let place = p.1.1 in
      let q = placed k l other_below other_along in
      let other_there = q.0 in
      let other_row = q.1.0 in
      let other_place = q.1.1 in
      let told : (squared x y).linked (y * i + j) (y * k + l) ≡ near i j k l = cc in
      Decides-at ((squared x y).linked (y * i + j) (y * k + l)) (near i j k l) told (near_decides i j k l)

  pub squared_is : IsSquare x y (squared x y)
  squared_is = record { columns = refl; border = border_decides; linked = linked_decides }
