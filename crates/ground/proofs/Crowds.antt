-- A row is full when one more link comes just where a column has a seventh link. Assumes nothing.
use Rattle.std.proofs.Common.{◌≡◌, ℕ, ◌+◌, ◌<◌, ◌≤◌, Bool, true, false, cond, ◌||◌, eqb, ltb, List, [], ◌∷◌, length, get_or, take, set, Some, None, count_by, Option, sym, refl, ap, ◌∙◌, subst, ⊎_elim, arith}
use Rattle.std.specs.List.{flat_map}
use Rattle.std.proofs.lemmas.List.{get_or-set_other, length-append, take_all}
use Rattle.std.proofs.lemmas.List.Sums.{count_by_more_yes, sum_by-cons, sum_by-take-le}
use Rattle.std.proofs.lemmas.Bool.{cases_lt, eq-eqb, ltb-false, ltb-true, ne_eqb, or_from, or_left, or_right}
use Rattle.ground.specs.Listing.{Crowded, Link, ascends, touches}
use Rattle.ground.specs.Lawful.{few_somes}
use Rattle.ground.specs.Table.{Filled, entries, no_row, other, with_link}
use Rattle.ground.specs.declared.row.Row.{Row}
use Rattle.ground.proofs.Ordered.{first_link}

-- what an attempt to add a link told of the row
pub was_full : (r : Row) (d : ℕ) (o : Option Row) → o ≡ cond (ltb (length (entries r)) 6) (Some (with_link r d)) None → o ≡ None → 6 ≤ length (entries r)
was_full r d o e n = go (ltb (length (entries r)) 6) refl (sym e ∙ n)
  where
    go : (b : Bool) → ltb (length (entries r)) 6 ≡ b → cond b (Some (with_link r d)) None ≡ None → 6 ≤ length (entries r)
    go true t h = let z : ◌≡◌ {A = ℕ} 0 1 = cc in absurd (omega arith)
    go false f h = ltb-false (length (entries r)) 6 f

pub had_room : (r new : Row) (d : ℕ) (o : Option Row) → o ≡ cond (ltb (length (entries r)) 6) (Some (with_link r d)) None → o ≡ Some new → (length (entries r) < 6) × (new ≡ with_link r d)
had_room r new d o e s = go (ltb (length (entries r)) 6) refl (sym e ∙ s)
  where
    go : (b : Bool) → ltb (length (entries r)) 6 ≡ b → cond b (Some (with_link r d)) None ≡ Some new → (length (entries r) < 6) × (new ≡ with_link r d)
    go true t h = (ltb-true (length (entries r)) 6 t, cc)
    go false f h = let z : ◌≡◌ {A = ℕ} 0 1 = cc in absurd (omega arith)

length_other : (p q : Bool) (l h : ℕ) → length (cond p (l ∷ []) (cond q (h ∷ []) [])) ≡ cond (q || p) 1 0
length_other true true l h = refl
length_other true false l h = refl
length_other false true l h = refl
length_other false false l h = refl

pub length_row : (c : ℕ) (ks : List Link) → length (flat_map (other c) ks) ≡ count_by (touches c) ks
length_row c [] = refl
length_row c (k ∷ ks) =
    let rest = length_row c ks in
    let cons : count_by (touches c) (k ∷ ks) ≡ cond (touches c k) 1 0 + count_by (touches c) ks = sum_by-cons (λ j. cond (touches c j) 1 0) k ks in
    omega (arith, length-append (other c k) (flat_map (other c) ks), length_other (eqb k.1 c) (eqb k.0 c) k.0 k.1, cons)

module _ (border : List ℕ) (ks : List Link) (rows : List Row) (i : ℕ) (was : Filled border (λ c. flat_map (other c) (take i ks)) rows) (lt : i < length ks) where
  abbrev k : Link
  k = get_or ks i (0, 0)

  crowd_at : (c : ℕ) → c < 256 → touches c k ≡ true → 6 ≤ length (entries (get_or rows c no_row)) → Crowded 256 ks
  crowd_at c small on full =
      let more = count_by_more_yes (touches c) ks i (0, 0) lt on in
      let all : count_by (touches c) (take (i + 1) ks) ≤ count_by (touches c) ks = sum_by-take-le (λ j. cond (touches c j) 1 0) ks (i + 1) in
      (c, small, omega (arith, ap length (was.keeps c small), length_row c (take i ks)))

  pub crowd_lower : k.0 < 256 → 6 ≤ length (entries (get_or rows k.0 no_row)) → Crowded 256 ks
  crowd_lower small full = crowd_at k.0 small (or_left (eqb k.0 k.0) _ (eq-eqb k.0 k.0 refl)) full

  pub crowd_higher : (new : Row) → k.0 < k.1 → k.1 < 256 → 6 ≤ length (entries (get_or (set rows k.0 new) k.1 no_row)) → Crowded 256 ks
  crowd_higher new less small full =
      let same = get_or-set_other rows k.0 k.1 new no_row (omega arith) in
      crowd_at k.1 small (or_right (eqb k.0 k.1) _ (eq-eqb k.1 k.1 refl)) (omega (arith, ap (λ r. length (entries r)) same))

pub filled_links : (border : List ℕ) (ks : List Link) (rows : List Row) (i : ℕ) → length ks ≤ i → Filled border (λ c. flat_map (other c) (take i ks)) rows → Filled border (λ c. flat_map (other c) ks) rows
filled_links border ks rows i h was = subst (λ js. Filled border (λ c. flat_map (other c) js) rows) (take_all i ks h) was

joins_none : (n c : ℕ) (k : Link) → k.0 < k.1 → k.1 < n → n ≤ c → touches c k ≡ false
joins_none n c k less small past = or_from (eqb k.0 c) (eqb k.1 c) (ne_eqb k.0 c (λ e. omega arith)) (ne_eqb k.1 c (λ e. omega arith))

-- no link touches what is past the last column
count_past : (n c : ℕ) (before : Link) (ks : List Link) → ascends n before ks ≡ true → n ≤ c → count_by (touches c) ks ≡ 0
count_past n c before [] h past = refl
count_past n c before (k ∷ ks) h past =
    let first = first_link n before k ks h in
    let cons : count_by (touches c) (k ∷ ks) ≡ cond (touches c k) 1 0 + count_by (touches c) ks = sum_by-cons (λ j. cond (touches c j) 1 0) k ks in
    omega (arith, cons, ap (λ b. cond {A = ℕ} b 1 0) (joins_none n c k first.lower first.inside past), count_past n c k ks first.later past)

pub crowded_within : (n : ℕ) (ks : List Link) → ascends n (0, 0) ks ≡ true → Crowded 256 ks → Crowded n ks
crowded_within n ks up crowd =
    ⊎_elim
    (λ (lt : crowd.0 < n). (crowd.0, lt, crowd.2))
    (λ (past : n ≤ crowd.0). absurd (omega (arith, crowd.2, count_past n crowd.0 (0, 0) ks up past)))
    (cases_lt crowd.0 n)

-- no column of filled rows has a seventh link
pub not_crowded : (n : ℕ) (border : List ℕ) (ks : List Link) (rows : List Row) → n ≤ 256 → Filled border (λ c. flat_map (other c) ks) rows → Crowded n ks → ⊥
not_crowded n border ks rows high full crowd =
    let c = crowd.0 in
    let row = get_or rows c no_row in
    let small : c < 256 = omega (arith, crowd.1) in
    omega (arith, crowd.2, length_row c ks, ap length (full.keeps c small), few_somes row.to, full.wide c small)
