-- The square and the listed ground obey what every ground obeys. Assumes nothing.
use Rattle.std.specs.Prelude.{◌≡◌, ℕ, ◌+◌, ◌*◌, ◌/◌, ◌%◌, ◌<◌, ◌≤◌, Bool, true, false, cond, ◌&&◌, List, [], ◌∷◌, length, Option, Some, None, ◌==◌, nat_lt, slice_index_or, refl}
use Rattle.std.proofs.Common.{sym, ◌∙◌, ⊎_elim, mul-le-mul, mul-pos, arith}
use Rattle.std.proofs.Math.Bool.{or_comm}
use Rattle.std.proofs.lemmas.Bool.{and_from, and_parts, and_right, cases_eq, eq-eqb, ltb-true, ne_eqb, or_from}
use Rattle.ground.specs.Meaning.{Lawful, neighbours}
use Rattle.ground.specs.Members.{somes}
use Rattle.ground.specs.Squared.{beside, near, squared}
use Rattle.ground.specs.Table.{entries, in_row, no_row, tabled}
use Rattle.ground.specs.declared.row.Row.{Row}

equal_back : (a b : ℕ) → (a == b) ≡ (b == a)
equal_back a b =
    ⊎_elim (λ e. eq-eqb a b e ∙ sym (eq-eqb b a (sym e))) (λ n. ne_eqb a b n ∙ sym (ne_eqb b a (λ e. n (sym e)))) (cases_eq a b)

near_back : (i j k l : ℕ) → near i j k l ≡ near k l i j
near_back i j k l =
    let across = equal_back i k in
    let along = equal_back j l in
    let beside_along = or_comm (j + 1 == l) (l + 1 == j) in
    let beside_across = or_comm (i + 1 == k) (k + 1 == i) in
    cc

beside_self : (a : ℕ) → beside a a ≡ false
beside_self a = let e = ne_eqb (a + 1) a (λ q. omega arith) in or_from (a + 1 == a) (a + 1 == a) e e

near_self : (i j : ℕ) → near i j i j ≡ false
near_self i j =
    or_from (i == i && beside j j) (j == j && beside i i) (and_right (i == i) (beside j j) (beside_self j)) (and_right (j == j) (beside i i) (beside_self i))

pub square_lawful : (x y : ℕ) → 1 ≤ x → x ≤ 16 → 1 ≤ y → y ≤ 16 → Lawful (squared x y)
square_lawful x y x_low x_high y_low y_high = record {
  some = omega (arith, mul-pos x_low y_low);
  few = omega (arith, mul-le-mul x_high y_high);
  at_border = λ c h. ltb-true c (x * y) (and_parts (nat_lt c (x * y)) _ h).0;
  within = λ c d h. ltb-true d (x * y) (and_parts (nat_lt d (x * y)) _ (and_parts (nat_lt c (x * y)) _ h).1).0;
  both_ways = λ c d h.
      let outer = and_parts (nat_lt c (x * y)) _ h in
      let inner = and_parts (nat_lt d (x * y)) _ outer.1 in
      let back = near_back (c / y) (c % y) (d / y) (d % y) in
      and_from (nat_lt d (x * y)) _ inner.0 (and_from (nat_lt c (x * y)) _ outer.0 (sym back ∙ inner.1));
  no_loop = λ c. and_right (nat_lt c (x * y)) _ (and_right (nat_lt c (x * y)) _ (near_self (c / y) (c % y)));
}

-- a table of rows is a ground where its links are within it, both ways and to other columns
pub listed_lawful : (n : ℕ) (rows : List Row) → 1 ≤ n → n ≤ 256
    → ((c d : ℕ) → (tabled n rows).linked c d ≡ true → d < n)
    → ((c d : ℕ) → (tabled n rows).linked c d ≡ true → (tabled n rows).linked d c ≡ true)
    → ((c : ℕ) → (tabled n rows).linked c c ≡ false) → Lawful (tabled n rows)
listed_lawful n rows low high within both_ways no_loop = record {
  some = low;
  few = high;
  at_border = λ c h. ltb-true c n (and_parts (nat_lt c n) _ h).0;
  within = within;
  both_ways = both_ways;
  no_loop = no_loop;
}

-- no more places are filled than there are
pub few_somes : (os : List (Option ℕ)) → length (somes os) ≤ length os
few_somes [] = omega arith
few_somes (Some x ∷ os) = omega (arith, few_somes os)
few_somes (None ∷ os) = omega (arith, few_somes os)

few_entries : (b : Bool) (r : Row) → (b ≡ true → length r.to ≡ 6) → length (cond b (entries r) []) ≤ 6
few_entries true r h = omega (arith, few_somes r.to, h refl)
few_entries false r h = omega arith

-- and no column has more links than a row holds
pub listed_few : (n : ℕ) (rows : List Row) → ((c : ℕ) → c < n → length (slice_index_or rows c no_row).to ≡ 6)
    → ((c : ℕ) → neighbours (tabled n rows) c ≡ in_row n rows c) → (c : ℕ) → length (neighbours (tabled n rows) c) ≤ 6
listed_few n rows wide tell c = rw tell (few_entries (nat_lt c n) (slice_index_or rows c no_row) (λ t. wide c (ltb-true c n t)))
