-- The sides of a column of the square ground are its neighbours, in rising order. Assumes nothing.
use Rattle.std.specs.Prelude.{◌≡◌, ℕ, suc, ◌+◌, ◌-◌, ◌*◌, ◌/◌, ◌%◌, ◌<◌, ◌≤◌, Bool, true, false, cond, ◌&&◌, ◌||◌, ◌⊎◌, List, [], ◌∷◌, length, None, Decides, ◌==◌, nat_le, nat_lt, refl}
use Rattle.std.proofs.Common.{sym, ap, ◌∙◌, inl, inr, ⊎_elim, add-mul, div-add-mod', mod-lt, mul_comm, one-mul, arith}
use Rattle.std.proofs.lemmas.Nat.{div_below, div-mul-add, mod-mul-add, mul-add-lt}
use Rattle.std.proofs.lemmas.Bool.{and_left, and_parts, le-leb, leb-true, ltb-true}
use Rattle.std.proofs.lemmas.Bool.Decides.{Decides-and, Decides-at, Decides-eqb, Decides-like, Decides-ltb, Decides-or, same_from_decides}
use Rattle.ground.specs.Meaning.{neighbours}
use Rattle.ground.specs.Members.{has, onto, somes}
use Rattle.ground.specs.Sides.{sides_of, where_so}
use Rattle.ground.specs.Squared.{Near, near, squared}
use Rattle.ground.specs.Rises.{Rising, kept_rising, rising_lower}

-- one more in front where a test holds
front : (b : Bool) (a v : ℕ) (xs : List ℕ) → (b ≡ true → (a ≤ v) × Rising (suc v) xs) → Rising a xs → Rising a (onto (where_so b v) xs)
front true a v xs h r = h refl
front false a v xs h r = r

has_front : (b : Bool) (d v : ℕ) (xs : List ℕ) → has d (onto (where_so b v) xs) ≡ ((b && d == v) || has d xs)
has_front true d v xs = refl
has_front false d v xs = refl

has_last : (b : Bool) (d v : ℕ) → has d (onto (where_so b v) []) ≡ (b && d == v)
has_last true d v = or_false (d == v)
  where
    or_false : (b : Bool) → (b || false) ≡ b
    or_false true = refl
    or_false false = refl
has_last false d v = refl

decides_leb : (a b : ℕ) → Decides (nat_le a b) (a ≤ b)
decides_leb a b = (leb-true a b, le-leb a b)

at_most : (b : Bool) (v n : ℕ) (xs : List ℕ) → length xs ≤ n → length (onto (where_so b v) xs) ≤ suc n
at_most true v n xs h = omega arith
at_most false v n xs h = omega arith

module _ (y c n : ℕ) (low : 1 ≤ y) where
  abbrev j : ℕ
  j = c % y

  abbrev after : List ℕ
  after = onto (where_so (nat_lt (c + y) n) (c + y)) []

  abbrev right_on : List ℕ
  right_on = onto (where_so (nat_lt (c % y + 1) y) (c + 1)) after

  abbrev left_on : List ℕ
  left_on = onto (where_so (nat_lt 0 (c % y)) (c - 1)) right_on

  abbrev four : List ℕ
  four = onto (where_so (nat_le y c) (c - y)) left_on

  rise_after : (a : ℕ) → a ≤ c + y → Rising a after
  rise_after a h = front (nat_lt (c + y) n) a (c + y) [] (λ t. (h, tt)) tt

  rise_right : Rising c right_on
  rise_right =
      front (nat_lt (c % y + 1) y) c (c + 1) after
      (λ t. (omega arith, rise_after (suc (c + 1)) (omega (arith, ltb-true (c % y + 1) y t))))
      (rise_after c (omega arith))

  under : c % y ≤ c
  under = omega (arith, div-add-mod' c y)

  rise_left : (a : ℕ) → a ≤ c → (0 < c % y → a ≤ c - 1) → Rising a left_on
  rise_left a h k =
      front (nat_lt 0 (c % y)) a (c - 1) right_on
      (λ t.
      let pos : 0 < c % y = ltb-true 0 (c % y) t in
      (k pos, rising_lower (suc (c - 1)) c right_on (omega (arith, under)) rise_right))
      (rising_lower a c right_on h rise_right)

  rise_four : Rising 0 four
  rise_four =
      front (nat_le y c) 0 (c - y) left_on
      (λ t.
      let le : y ≤ c = leb-true y c t in
      (omega arith, rise_left (suc (c - y)) (omega arith) (λ pos. omega (arith, mod-lt c {m = y} low))))
      (rise_left 0 (omega arith) (λ pos. omega arith))

  few_four : length four ≤ 4
  few_four =
      at_most (nat_le y c) (c - y) 3 left_on (at_most (nat_lt 0 (c % y)) (c - 1) 2 right_on (at_most (nat_lt (c % y + 1) y) (c + 1) 1 after (at_most (nat_lt (c + y) n) (c + y) 0 [] (omega arith))))

  -- d is on one of the four sides of c
  abbrev OnSide : ℕ → Type 0
  OnSide d = ((y ≤ c) × (d ≡ c - y)) ⊎ (((0 < c % y) × (d ≡ c - 1)) ⊎ (((c % y + 1 < y) × (d ≡ c + 1)) ⊎ ((c + y < n) × (d ≡ c + y))))

  has_four : (d : ℕ) → has d four ≡ ((nat_le y c && d == c - y) || ((nat_lt 0 (c % y) && d == c - 1) || ((nat_lt (c % y + 1) y && d == c + 1) || (nat_lt (c + y) n && d == c + y))))
  has_four d =
      has_front (nat_le y c) d (c - y) left_on ∙ ap (λ b. (nat_le y c && d == c - y) || b) (has_front (nat_lt 0 (c % y)) d (c - 1) right_on ∙ ap (λ b. (nat_lt 0 (c % y) && d == c - 1) || b) (has_front (nat_lt (c % y + 1) y) d (c + 1) after ∙ ap (λ b. (nat_lt (c % y + 1) y && d == c + 1) || b) (has_last (nat_lt (c + y) n) d (c + y))))

  four_decides : (d : ℕ) → Decides (has d four) (OnSide d)
  four_decides d =
      Decides-at (has d four) _ (has_four d)
      (Decides-or _ _ (Decides-and _ _ (decides_leb y c) (Decides-eqb d (c - y))) (Decides-or _ _ (Decides-and _ _ (Decides-ltb 0 (c % y)) (Decides-eqb d (c - 1))) (Decides-or _ _ (Decides-and _ _ (Decides-ltb (c % y + 1) y) (Decides-eqb d (c + 1))) (Decides-and _ _ (Decides-ltb (c + y) n) (Decides-eqb d (c + y))))))

pub near_decides : (i j k l : ℕ) → Decides (near i j k l) (Near i j k l)
near_decides i j k l =
    Decides-or _ _ (Decides-and _ _ (Decides-eqb i k) (Decides-or _ _ (Decides-eqb (j + 1) l) (Decides-eqb (l + 1) j))) (Decides-and _ _ (Decides-eqb j l) (Decides-or _ _ (Decides-eqb (i + 1) k) (Decides-eqb (k + 1) i)))

one_more : (i y : ℕ) → (i + 1) * y ≡ i * y + y
one_more i y = add-mul i 1 y ∙ ap (λ t. i * y + t) (one-mul y)

module _ (x y c d : ℕ) (low : 1 ≤ y) (in' : c < x * y) where
  to_side : d < x * y → Near (c / y) (c % y) (d / y) (d % y) → OnSide y c (x * y) low d
  to_side lt near' =
      let ec = div-add-mod' c y in
      let ed = div-add-mod' d y in
      let jc = mod-lt c {m = y} low in
      let jd = mod-lt d {m = y} low in
      ⊎_elim
      (λ row.
      let same : c / y * y ≡ d / y * y = ap (λ q. q * y) row.0 in
      ⊎_elim
      (λ (e : c % y + 1 ≡ d % y). inr (inr (inl (omega arith, omega arith))))
      (λ (e : d % y + 1 ≡ c % y). inr (inl (omega arith, omega arith)))
      row.1)
      (λ col.
      let level : c % y ≡ d % y = col.0 in
      ⊎_elim
      (λ (e : c / y + 1 ≡ d / y).
      let step : c / y * y + y ≡ d / y * y = sym (one_more (c / y) y) ∙ ap (λ q. q * y) e in
      inr (inr (inr (omega arith, omega arith))))
      (λ (e : d / y + 1 ≡ c / y).
      let step : d / y * y + y ≡ c / y * y = sym (one_more (d / y) y) ∙ ap (λ q. q * y) e in
      inl (omega arith, omega arith))
      col.1)
      near'

  -- where a column is, from a row and a place in it
  at : (e i j : ℕ) → j < y → e ≡ i * y + j → (e / y ≡ i) × (e % y ≡ j)
  at e i j h q = (ap (λ t. t / y) q ∙ div-mul-add i y j h, ap (λ t. t % y) q ∙ mod-mul-add i y j h)

  from_side : OnSide y c (x * y) low d → (d < x * y) × Near (c / y) (c % y) (d / y) (d % y)
  from_side s =
      let ec = div-add-mod' c y in
      let ed = div-add-mod' d y in
      let jc = mod-lt c {m = y} low in
      let jd = mod-lt d {m = y} low in
      ⊎_elim
      (λ p.
      let up = one_more (d / y) y in
      let w = at c (d / y + 1) (d % y) jd (omega (arith, p.0, p.1)) in
      (omega (arith, p.1), inr (w.1, inr (sym w.0))))
      (⊎_elim
      (λ p.
      let pos : 0 < c % y = p.0 in
      let w = at d (c / y) (c % y - 1) (omega arith) (omega (arith, p.1)) in
      (omega (arith, p.1), inl (sym w.0, inr (omega (arith, w.1)))))
      (⊎_elim
      (λ p.
      let room : c % y + 1 < y = p.0 in
      let w = at d (c / y) (c % y + 1) room (omega (arith, p.1)) in
      (omega (arith, p.1, mul-add-lt (c / y) y (c % y + 1) x (div_below c y x low in') room, mul_comm x y), inl (sym w.0, inl (sym w.1))))
      (λ p.
      let up = one_more (c / y) y in
      let w = at d (c / y + 1) (c % y) jc (omega (arith, p.1)) in
      (omega (arith, p.0, p.1), inr (sym w.1, inl (sym w.0))))))
      s

  beside_decides : Decides ((squared x y).linked c d) (OnSide y c (x * y) low d)
  beside_decides =
      let near_tells = near_decides (c / y) (c % y) (d / y) (d % y) in
      Decides-like ((squared x y).linked c d)
      (λ t. to_side t.1.0 t.1.1)
      (λ s. let t = from_side s in (in', (t.0, t.1)))
      (Decides-and (nat_lt c (x * y)) _ (Decides-ltb c (x * y)) (Decides-and (nat_lt d (x * y)) _ (Decides-ltb d (x * y)) near_tells))

module _ (x y : ℕ) (low : 1 ≤ y) where
  within : (c d : ℕ) → (squared x y).linked c d ≡ true → d < x * y
  within c d h = ltb-true d (x * y) (and_parts (nat_lt d (x * y)) _ (and_parts (nat_lt c (x * y)) _ h).1).0

  kept : (c : ℕ) (b : Bool) → nat_lt c (x * y) ≡ b → neighbours (squared x y) c ≡ somes (cond b (where_so (nat_le y c) (c - y) ∷ where_so (nat_lt 0 (c % y)) (c - 1) ∷ where_so (nat_lt (c % y + 1) y) (c + 1) ∷ where_so (nat_lt (c + y) (x * y)) (c + y) ∷ []) (None ∷ None ∷ None ∷ None ∷ []))
  kept c true t =
      kept_rising ((squared x y).linked c) (x * y) (within c) (four y c (x * y) low) (rise_four y c (x * y) low)
      (λ d. same_from_decides ((squared x y).linked c d) (has d (four y c (x * y) low)) (beside_decides x y c d low (ltb-true c (x * y) t)) (four_decides y c (x * y) low d))
  kept c false f =
      kept_rising ((squared x y).linked c) (x * y) (within c) [] tt (λ d. and_left (nat_lt c (x * y)) _ f)

  pub sides_are : (c : ℕ) → neighbours (squared x y) c ≡ somes (sides_of x y c)
  sides_are c = kept c (nat_lt c (x * y)) refl

  few : (c : ℕ) (b : Bool) → length (somes (cond b (where_so (nat_le y c) (c - y) ∷ where_so (nat_lt 0 (c % y)) (c - 1) ∷ where_so (nat_lt (c % y + 1) y) (c + 1) ∷ where_so (nat_lt (c + y) (x * y)) (c + y) ∷ []) (None ∷ None ∷ None ∷ None ∷ []))) ≤ 4
  few c true = few_four y c (x * y) low
  few c false = omega arith

  pub sides_few : (c : ℕ) → length (neighbours (squared x y) c) ≤ 4
  sides_few c = omega (arith, ap length (sides_are c), few c (nat_lt c (x * y)))
