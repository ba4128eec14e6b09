-- Rows that are filled from lists mean what the lists say. Assumes nothing.
use Rattle.std.proofs.Common.{◌≡◌, ℕ, ◌<◌, ◌≤◌, Bool, true, false, cond, ◌&&◌, ◌||◌, eqb, ltb, List, [], ◌∷◌, ◌++◌, get_or, sym, refl, ap, ◌∙◌, subst, ⊎_elim, arith}
use Rattle.std.specs.List.{flat_map}
use Rattle.std.proofs.lemmas.List.{get_or_past}
use Rattle.std.proofs.lemmas.Bool.{cases_lt, ltb-false, ltb-true, or_from}
use Rattle.std.proofs.lemmas.Bool.Decides.{nat_tests}
use Rattle.ground.specs.Listing.{IsBorderList, Link, ascends, joins, listed, some_joins}
use Rattle.ground.specs.Lawful.{listed_lawful}
use Rattle.ground.specs.Meaning.{Lawful, Same, neighbours}
use Rattle.ground.specs.Members.{has}
use Rattle.ground.specs.Table.{Filled, entries, in_row, no_row, other, tabled}
use Rattle.ground.specs.declared.row.Row.{Row}
use Rattle.ground.proofs.Climbing.{rises}
use Rattle.ground.proofs.Ordered.{first_link}
use Rattle.ground.specs.Rises.{Rising, kept_rising}

as_higher : (c d l h : ℕ) → l < h → eqb h c ≡ true → eqb d l ≡ ((eqb l c && eqb h d) || (eqb l d && eqb h c))
as_higher c d l h less e = grind (arith, nat_tests)

as_lower : (c d l h : ℕ) → eqb h c ≡ false → eqb l c ≡ true → eqb d h ≡ ((eqb l c && eqb h d) || (eqb l d && eqb h c))
as_lower c d l h e f = grind (arith, nat_tests)

as_none : (c d l h : ℕ) → eqb h c ≡ false → eqb l c ≡ false → false ≡ ((eqb l c && eqb h d) || (eqb l d && eqb h c))
as_none c d l h e f = grind (arith, nat_tests)

-- a link is in the row of c where it leads to d
in_link : (c d l h : ℕ) (xs : List ℕ) → l < h → (p q : Bool) → eqb h c ≡ p → eqb l c ≡ q → has d (cond p (l ∷ []) (cond q (h ∷ []) []) ++ xs) ≡ (((eqb l c && eqb h d) || (eqb l d && eqb h c)) || has d xs)
in_link c d l h xs less true q e f = ap (λ b. b || has d xs) (as_higher c d l h less e)
in_link c d l h xs less false true e f = ap (λ b. b || has d xs) (as_lower c d l h e f)
in_link c d l h xs less false false e f = ap (λ b. b || has d xs) (as_none c d l h e f)

joins_past : (n c d l h : ℕ) → l < h → h < n → n ≤ c → ((eqb l c && eqb h d) || (eqb l d && eqb h c)) ≡ false
joins_past n c d l h less small past = grind (arith, nat_tests)

joins_back : (c d l h : ℕ) → ((eqb l c && eqb h d) || (eqb l d && eqb h c)) ≡ ((eqb l d && eqb h c) || (eqb l c && eqb h d))
joins_back c d l h = grind (arith, nat_tests)

joins_self : (c l h : ℕ) → l < h → ((eqb l c && eqb h c) || (eqb l c && eqb h c)) ≡ false
joins_self c l h less = grind (arith, nat_tests)

module _ (n : ℕ) where
  in_links : (c d : ℕ) (before : Link) (ks : List Link) → ascends n before ks ≡ true → has d (flat_map (other c) ks) ≡ some_joins c d ks
  in_links c d before [] h = refl
  in_links c d before (k ∷ ks) h =
      let first = first_link n before k ks h in
      in_link c d k.0 k.1 (flat_map (other c) ks) first.lower (eqb k.1 c) (eqb k.0 c) refl refl ∙ ap (λ b. joins c d k || b) (in_links c d k ks first.later)

  none_past : (c d : ℕ) (before : Link) (ks : List Link) → ascends n before ks ≡ true → n ≤ c → some_joins c d ks ≡ false
  none_past c d before [] h past = refl
  none_past c d before (k ∷ ks) h past =
      let first = first_link n before k ks h in
      or_from (joins c d k) (some_joins c d ks) (joins_past n c d k.0 k.1 first.lower first.inside past) (none_past c d k ks first.later past)

  back : (c d : ℕ) (ks : List Link) → some_joins c d ks ≡ some_joins d c ks
  back c d [] = refl
  back c d (k ∷ ks) = ap (λ b. b || some_joins c d ks) (joins_back c d k.0 k.1) ∙ ap (λ b. joins d c k || b) (back c d ks)

  self : (c : ℕ) (before : Link) (ks : List Link) → ascends n before ks ≡ true → some_joins c c ks ≡ false
  self c before [] h = refl
  self c before (k ∷ ks) h =
      let first = first_link n before k ks h in
      or_from (joins c c k) (some_joins c c ks) (joins_self c k.0 k.1 first.lower) (self c k ks first.later)

module _ (n : ℕ) (border : List ℕ) (ks : List Link) (rows : List Row) (list : IsBorderList n border) (up : ascends n (0, 0) ks ≡ true) (full : Filled border (λ c. flat_map (other c) ks) rows) where
  kept : (c : ℕ) → c < n → entries (get_or rows c no_row) ≡ flat_map (other c) ks
  kept c lt = full.keeps c (omega (arith, list.high))

  linked_at : (c d : ℕ) (b : Bool) → ltb c n ≡ b → has d (cond b (entries (get_or rows c no_row)) []) ≡ some_joins c d ks
  linked_at c d true t = ap (has d) (kept c (ltb-true c n t)) ∙ in_links n c d (0, 0) ks up
  linked_at c d false f = sym (none_past n c d (0, 0) ks up (ltb-false c n f))

  linked_as : (c d : ℕ) → (tabled n rows).linked c d ≡ some_joins c d ks
  linked_as c d = linked_at c d (ltb c n) refl

  border_at : (c : ℕ) (b : Bool) → ltb c n ≡ b → (b && (get_or rows c no_row).border) ≡ eqb (get_or border c 0) 1
  border_at c true t = full.bordered c
  border_at c false f = ap (λ b. eqb b 1) (sym (get_or_past border c 0 (omega (arith, list.long, ltb-false c n f))))

  pub means_lists : Same (tabled n rows) (listed n border ks)
  means_lists = record { columns = refl; border = λ c. border_at c (ltb c n) refl; linked = linked_as }

  pub rows_back : (c d : ℕ) → (tabled n rows).linked c d ≡ true → (tabled n rows).linked d c ≡ true
  rows_back c d h = linked_as d c ∙ back n d c ks ∙ sym (linked_as c d) ∙ h

  pub rows_apart : (c : ℕ) → (tabled n rows).linked c c ≡ false
  rows_apart c = linked_as c c ∙ self n c (0, 0) ks up

  pub rows_within : (c d : ℕ) → (tabled n rows).linked c d ≡ true → d < n
  rows_within c d h =
      ⊎_elim
      (λ (lt : d < n). lt)
      (λ (past : n ≤ d).
      let none = none_past n d c (0, 0) ks up past in
      let some = sym (linked_as d c) ∙ rows_back c d h in
      let z : ◌≡◌ {A = ℕ} 0 1 = cc in
      absurd (omega arith))
      (cases_lt d n)

  rise_at : (c : ℕ) (b : Bool) → ltb c n ≡ b → Rising 0 (cond b (entries (get_or rows c no_row)) [])
  rise_at c true t = subst (Rising 0) (sym (kept c (ltb-true c n t))) (rises n c ks up)
  rise_at c false f = tt

  pub rows_tell : (c : ℕ) → neighbours (tabled n rows) c ≡ in_row n rows c
  rows_tell c = kept_rising ((tabled n rows).linked c) n (rows_within c) (in_row n rows c) (rise_at c (ltb c n) refl) (λ d. refl)

  pub rows_lawful : Lawful (tabled n rows)
  rows_lawful = listed_lawful n rows list.low list.high rows_within rows_back rows_apart
