-- A field is read as n exactly where it shows n: spaces, and then n in decimal. Assumes nothing.
use Rattle.std.proofs.Common.{◌≡◌, ℕ, zero, suc, ◌+◌, ◌-◌, ◌*◌, ◌^◌, ◌<◌, ◌≤◌, Bool, true, false, cond, ◌&&◌, eqb, leb, List, [], ◌∷◌, ◌++◌, length, get_or, replicate, Some, None, Option, decimal, sym, refl, ap, ◌∙◌, ⊎_elim, arith, rules}
use Rattle.std.specs.Str.{all_ascii_digits}
use Rattle.std.proofs.lemmas.Fmt.{decimal_digit, decimal_nonempty, decimal-digits_value, digits_decimal, first_decimal, digits_value-decimal}
use Rattle.std.proofs.lemmas.Str.Parse.{IsNumeralModel, numerals_by_fold, tells_all_ascii_digits, digits_value_short}
use Rattle.std.proofs.lemmas.Bool.{cases_lt, eq-eqb, eqb-true, le-leb, leb-true, ne_eqb}
use Rattle.sheet.specs.Fields.{Shows, digits, number_in, plain, unspaced}

abbrev pub read_on : ℕ → List ℕ → ℕ
read_on n [] = n
read_on n (c ∷ cs) = read_on (n * 10 + (c - 48)) cs

pub own : IsNumeralModel (λ ds. all_ascii_digits ds ≡ true) (read_on 0)
own = numerals_by_fold _ tells_all_ascii_digits read_on (search rules)

digits_all : (n : ℕ) (ds : List ℕ) → digits n ds ≡ cond (all_ascii_digits ds) (Some (read_on n ds)) None
digits_all n [] = refl
digits_all n (c ∷ cs) = go (leb 48 c) (leb c 57) (digits_all (n * 10 + (c - 48)) cs)
  where
    go : (a b : Bool) → digits (n * 10 + (c - 48)) cs ≡ cond (all_ascii_digits cs) (Some (read_on (n * 10 + (c - 48)) cs)) None
        → cond (cond a b false) (digits (n * 10 + (c - 48)) cs) None ≡ cond ((a && b) && all_ascii_digits cs) (Some (read_on (n * 10 + (c - 48)) cs)) None
    go true true e = e
    go true false e = refl
    go false b e = refl

-- digits that are read have a value
valued : (ds : List ℕ) (n : ℕ) → digits 0 ds ≡ Some n → (all_ascii_digits ds ≡ true) × (read_on 0 ds ≡ n)
valued ds n e = go (all_ascii_digits ds) (sym (digits_all 0 ds) ∙ e)
  where
    go : (b : Bool) → cond b (Some (read_on 0 ds)) None ≡ Some n → (b ≡ true) × (read_on 0 ds ≡ n)
    go true h = (refl, cc)
    go false h = cc

-- a plain number: some digits, and no 0 before another
parts : (ds : List ℕ) (n : ℕ) → plain ds ≡ Some n → (digits 0 ds ≡ Some n) × (0 < length ds) × (get_or ds 0 0 ≡ 48 → length ds ≡ 1)
parts [] n e = cc
parts (b ∷ []) n e = (e, omega arith, λ _. refl)
parts (b ∷ c ∷ bs) n e = go (eqb b 48) refl e
  where
    go : (t : Bool) → t ≡ eqb b 48 → cond t None (digits 0 (b ∷ c ∷ bs)) ≡ Some n → (digits 0 (b ∷ c ∷ bs) ≡ Some n) × (0 < length (b ∷ c ∷ bs)) × (b ≡ 48 → length (b ∷ c ∷ bs) ≡ 1)
    go true et h = cc
    go false et h = (h, omega arith, λ q. let w = eq-eqb b 48 q in cc)

joins : (ds : List ℕ) → 0 < length ds → (get_or ds 0 0 ≡ 48 → length ds ≡ 1) → plain ds ≡ digits 0 ds
joins [] h f = absurd (omega arith)
joins (b ∷ []) h f = refl
joins (b ∷ c ∷ bs) h f = ap (λ (t : Bool). cond t None (digits 0 (b ∷ c ∷ bs))) (ne_eqb b 48 (λ e. omega (arith, f e)))

-- spaces in front, and the rest
pub split : (bs : List ℕ) → (k : ℕ) × (bs ≡ replicate k 32 ++ unspaced bs)
split [] = (0, refl)
split (b ∷ bs) = go (eqb b 32) refl (split bs)
  where
    go : (t : Bool) → t ≡ eqb b 32 → (k : ℕ) × (bs ≡ replicate k 32 ++ unspaced bs) → (k : ℕ) × (b ∷ bs ≡ replicate k 32 ++ cond t (unspaced bs) (b ∷ bs))
    go true e p = let h : b ≡ 32 = eqb-true b 32 (sym e) in let q = p.1 in (suc p.0, cc)
    go false e p = (0, refl)

pub unspaced_text : (k : ℕ) (ds : List ℕ) → (get_or ds 0 0 ≡ 32 → ⊥) → unspaced (replicate k 32 ++ ds) ≡ ds
unspaced_text zero [] f = refl
unspaced_text zero (b ∷ bs) f = ap (λ (t : Bool). cond t (unspaced bs) (b ∷ bs)) (ne_eqb b 32 f)
unspaced_text (suc k) ds f = unspaced_text k ds f

unspaced_le : (bs : List ℕ) → length (unspaced bs) ≤ length bs
unspaced_le [] = omega arith
unspaced_le (b ∷ bs) = go (eqb b 32) (unspaced_le bs)
  where
    go : (t : Bool) → length (unspaced bs) ≤ length bs → length (cond t (unspaced bs) (b ∷ bs)) ≤ length (b ∷ bs)
    go true h = omega arith
    go false h = omega arith

-- the first digit of a number: 0 alone, else above 0
pub first_digit : (n : ℕ) → n < 10 ^ 9 → (48 ≤ get_or (decimal n) 0 0) × (get_or (decimal n) 0 0 ≡ 48 → length (decimal n) ≡ 1)
first_digit n small =
    ⊎_elim
    (λ one. let e = decimal_digit n one in let f : get_or (decimal n) 0 0 ≡ 48 + n = ap (λ (l : List ℕ). get_or l 0 0) e in (omega arith, λ _. ap length e))
    (λ more. let f = first_decimal n (omega arith) (omega arith) in (omega arith, λ e. absurd (omega arith)))
    (cases_lt n 10)

pub number_shows : (bs : List ℕ) (n : ℕ) → number_in bs ≡ Some n → Shows bs n
number_shows bs n e = go (leb (length bs) 9) refl e
  where
    go : (t : Bool) → t ≡ leb (length bs) 9 → cond t (plain (unspaced bs)) None ≡ Some n → Shows bs n
    go false et h = cc
    go true et h =
        let p = parts (unspaced bs) n h in
        let v = valued (unspaced bs) n p.0 in
        let narrow : length bs ≤ 9 = leb-true (length bs) 9 (sym et) in
        let low = unspaced_le bs in
        let short : read_on 0 (unspaced bs) < 10 ^ 9 = digits_value_short own (unspaced bs) 9 v.0 (omega arith) in
        let d : decimal (read_on 0 (unspaced bs)) ≡ unspaced bs = decimal-digits_value own (unspaced bs) v.0 p.1 p.2 (omega arith) in
        let s = split bs in
        record { narrow = narrow; small = omega (arith, v.1); spaces = s.0; text = s.1 ∙ ap (λ (t : List ℕ). replicate s.0 32 ++ t) (sym d ∙ ap decimal v.1) }

pub shows_number : (bs : List ℕ) (n : ℕ) → Shows bs n → number_in bs ≡ Some n
shows_number bs n w =
    let small : n < 10 ^ 9 = w.small in
    let f = first_digit n small in
    let e : unspaced bs ≡ decimal n = ap unspaced w.text ∙ unspaced_text w.spaces (decimal n) (λ q. omega (arith, f.0)) in
    let all : digits 0 (decimal n) ≡ Some n =
    digits_all 0 (decimal n) ∙ ap (λ (t : Bool). cond t (Some (read_on 0 (decimal n))) None) (digits_decimal own n (omega arith)) ∙ ap Some (digits_value-decimal own n (omega arith)) in
    ap (λ (t : Bool). cond t (plain (unspaced bs)) None) (le-leb (length bs) 9 w.narrow)
    ∙ ap plain e ∙ joins (decimal n) (decimal_nonempty n (omega arith)) f.1 ∙ all

-- so does what is read of a field, whether a number or not
pub numbers_show : (bs : List ℕ) (r : Option ℕ) → r ≡ number_in bs → (n : ℕ) → (r ≡ Some n → Shows bs n) × (Shows bs n → r ≡ Some n)
numbers_show bs r e n = (λ h. number_shows bs n (sym e ∙ h), λ w. e ∙ shows_number bs n w)
