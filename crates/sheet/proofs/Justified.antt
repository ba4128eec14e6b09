-- A field shows a number, a place, a letter or a carry exactly where that is written in it, to the right. Assumes nothing.
use Rattle.std.proofs.Common.{◌≡◌, ℕ, zero, suc, ◌+◌, ◌-◌, ◌/◌, ◌%◌, ◌^◌, ◌<◌, ◌≤◌, Bool, true, false, cond, eqb, List, [], ◌∷◌, ◌++◌, length, get_or, replicate, Some, None, Option, decimal, sym, refl, ap, ◌∙◌, subst, ⊎_elim, arith, length-append}
use Rattle.std.proofs.lemmas.Bool.{and_parts, cases_lt, eq-eqb, eqb-true, ne_eqb}
use Rattle.std.proofs.lemmas.Fmt.{decimal_digit, decimal_nonempty, decimal_step, digits_decimal, digits_value-decimal, length-decimal-le}
use Rattle.std.proofs.lemmas.List.{length-replicate}
use Rattle.std.proofs.lemmas.Str.Parse.{digits_value_short}
use Rattle.sheet.specs.declared.record.Letter.{Letter}
use Rattle.sheet.specs.declared.record.Letter.TheVariants.{M, P, D}
use Rattle.sheet.specs.declared.record.Place.{Place}
use Rattle.sheet.specs.declared.record.Place.TheVariants.{Outside, At}
use Rattle.sheet.specs.Fields.{blank, by_one, flag, is, letter, letter_in, lone, number_in, numbered, place_in, unspaced}
use Rattle.sheet.specs.Written.{Narrow, carry_text, letter_text, place_text, right}
use Rattle.sheet.proofs.Numbers.{first_digit, number_shows, own, shows_number, split, unspaced_text}

-- what stands behind spaces fills a field to its right
fills : (w k : ℕ) (bs t : List ℕ) → length bs ≡ w → bs ≡ replicate k 32 ++ t → (length t ≤ w) × (bs ≡ right w t)
fills w k bs t l e =
    let n = ap length e ∙ length-append (replicate k 32) t in
    let s = length-replicate {A = ℕ} k 32 in
    let i : k ≡ w - length t = omega arith in
    (omega arith, e ∙ ap (λ (j : ℕ). replicate j 32 ++ t) i)

pub length_right : (w : ℕ) (t : List ℕ) → length t ≤ w → length (right w t) ≡ w
length_right w t l = let s = length-replicate {A = ℕ} (w - length t) 32 in let a = length-append (replicate (w - length t) 32) t in omega arith

-- so many digits, so small
few : (w n : ℕ) → n < 10 ^ 9 → length (decimal n) ≤ w → n < 10 ^ w
few w n small l =
    let P : ℕ → Type 0 = λ x. x < 10 ^ w in
    subst P (digits_value-decimal own n (omega arith)) (digits_value_short own (decimal n) w (digits_decimal own n (omega arith)) l)

pub number_right : (w : ℕ) (bs : List ℕ) (n : ℕ) → length bs ≡ w → number_in bs ≡ Some n → (n < 10 ^ w) × (bs ≡ right w (decimal n))
number_right w bs n l e =
    let s = number_shows bs n e in
    let f = fills w s.spaces bs (decimal n) l s.text in
    (few w n s.small f.0, f.1)

pub narrow : (w n : ℕ) → 0 < w → n < 10 ^ w → n < 10 ^ 9 → length (decimal n) ≤ w
narrow w n some low small = length-decimal-le w n some low (omega arith)

pub right_number : (w n : ℕ) → 0 < w → w ≤ 9 → n < 10 ^ w → n < 10 ^ 9 → number_in (right w (decimal n)) ≡ Some n
right_number w n some nine low small =
    let d = narrow w n some low small in
    let r = length_right w (decimal n) d in
    shows_number (right w (decimal n)) n (record { narrow = omega arith; small = small; spaces = w - length (decimal n); text = refl })

lone_is : (l : List ℕ) (b : ℕ) → lone l ≡ Some b → l ≡ b ∷ []
lone_is [] b e = cc
lone_is (x ∷ []) b e = let i : x ≡ b = cc in ap (λ (y : ℕ). y ∷ []) i
lone_is (x ∷ y ∷ t) b e = cc

lone_right : (w : ℕ) (bs : List ℕ) (b : ℕ) → length bs ≡ w → lone (unspaced bs) ≡ Some b → bs ≡ right w (b ∷ [])
lone_right w bs b l e =
    let s = split bs in
    (fills w s.0 bs (b ∷ []) l (s.1 ∙ ap (λ (t : List ℕ). replicate s.0 32 ++ t) (lone_is (unspaced bs) b e))).1

right_unspaced : (w : ℕ) (t : List ℕ) → (get_or t 0 0 ≡ 32 → ⊥) → unspaced (right w t) ≡ t
right_unspaced w t f = unspaced_text (w - length t) t f

-- places
module _ (mark w : ℕ) (bs : List ℕ) (p : Place) (l : length bs ≡ w) where
  abbrev Here : Place → Type 0
  Here x = Narrow w x × (bs ≡ right w (place_text mark x))

  by_number : (n : Option ℕ) → number_in bs ≡ n → numbered n ≡ Some p → Here p
  by_number None en e = cc
  by_number (Some k) en e = let i : At k ≡ p = cc in subst Here i (number_right w bs k l en)

  by_mark : (b : ℕ) (t : Bool) (n : Option ℕ) → lone (unspaced bs) ≡ Some b → eqb b mark ≡ t → number_in bs ≡ n → cond t (Some Outside) (numbered n) ≡ Some p → Here p
  by_mark b true n eo et en e =
      let i : Outside ≡ p = cc in
      subst Here i (tt, lone_right w bs mark l (eo ∙ ap (λ (x : ℕ). Some x) (eqb-true b mark et)))
  by_mark b false n eo et en e = by_number n en e

  by_lone : (o n : Option ℕ) → lone (unspaced bs) ≡ o → number_in bs ≡ n → cond (is mark o) (Some Outside) (numbered n) ≡ Some p → Here p
  by_lone None n eo en e = by_number n en e
  by_lone (Some b) n eo en e = by_mark b (eqb b mark) n eo refl en e

  pub place_right : place_in mark bs ≡ Some p → Narrow w p × (bs ≡ right w (place_text mark p))
  place_right e = by_lone (lone (unspaced bs)) (number_in bs) refl refl e

lone_long : (l : List ℕ) → 2 ≤ length l → lone l ≡ None
lone_long [] h = absurd (omega arith)
lone_long (x ∷ []) h = absurd (omega arith)
lone_long (x ∷ y ∷ t) h = refl

-- a number is no mark
no_mark : (mark n : ℕ) → 58 ≤ mark → n < 10 ^ 9 → is mark (lone (decimal n)) ≡ false
no_mark mark n high small =
    ⊎_elim
    (λ one. ap (λ (l : List ℕ). is mark (lone l)) (decimal_digit n one) ∙ ne_eqb (48 + n) mark (λ e. omega arith))
    (λ more.
    let s = ap length (decimal_step n more (omega arith)) ∙ length-append (decimal (n / 10)) ((48 + n % 10) ∷ []) in
    let d = decimal_nonempty (n / 10) (omega arith) in
    ap (is mark) (lone_long (decimal n) (omega arith)))
    (cases_lt n 10)

pub right_place : (mark w : ℕ) (p : Place) → 58 ≤ mark → 0 < w → w ≤ 9 → 10 ^ w ≤ 10 ^ 9 → Narrow w p → place_in mark (right w (place_text mark p)) ≡ Some p
right_place mark w Outside high some nine top f =
    let bs = right w (mark ∷ []) in
    ap (λ (t : List ℕ). cond (is mark (lone t)) (Some Outside) (numbered (number_in bs))) (right_unspaced w (mark ∷ []) (λ e. omega arith))
    ∙ ap (λ (b : Bool). cond b (Some Outside) (numbered (number_in bs))) (eq-eqb mark mark refl)
right_place mark w (At n) high some nine top f =
    let bs = right w (decimal n) in
    let small : n < 10 ^ 9 = omega arith in
    let d = first_digit n small in
    ap (λ (t : List ℕ). cond (is mark (lone t)) (Some Outside) (numbered (number_in bs))) (right_unspaced w (decimal n) (λ e. omega (arith, d.0)))
    ∙ ap (λ (b : Bool). cond b (Some Outside) (numbered (number_in bs))) (no_mark mark n high small)
    ∙ ap numbered (right_number w n some nine f small)

pub length_place : (mark w : ℕ) (p : Place) → 0 < w → 10 ^ w ≤ 10 ^ 9 → Narrow w p → length (right w (place_text mark p)) ≡ w
length_place mark w Outside some top f = length_right w (mark ∷ []) (omega arith)
length_place mark w (At n) some top f = length_right w (decimal n) (narrow w n some f (omega arith))

-- letters
module _ (w : ℕ) (bs : List ℕ) (x : Letter) (l : length bs ≡ w) where
  lettered : (y : Letter) (b k : ℕ) → lone (unspaced bs) ≡ Some b → letter_text y ≡ k ∷ [] → eqb b k ≡ true → y ≡ x → bs ≡ right w (letter_text x)
  lettered y b k eo t et i =
      let P : Letter → Type 0 = λ z. bs ≡ right w (letter_text z) in
      subst P i (lone_right w bs k l (eo ∙ ap (λ (j : ℕ). Some j) (eqb-true b k et)) ∙ ap (right w) (sym t))

  by_byte : (b : ℕ) (p q r : Bool) → lone (unspaced bs) ≡ Some b → eqb b 77 ≡ p → eqb b 80 ≡ q → eqb b 68 ≡ r → cond p (Some M) (cond q (Some P) (cond r (Some D) None)) ≡ Some x
      → bs ≡ right w (letter_text x)
  by_byte b true q r eo ep eq er e = lettered M b 77 eo refl ep cc
  by_byte b false true r eo ep eq er e = lettered P b 80 eo refl eq cc
  by_byte b false false true eo ep eq er e = lettered D b 68 eo refl er cc
  by_byte b false false false eo ep eq er e = cc

  by_lone_letter : (o : Option ℕ) → lone (unspaced bs) ≡ o → by_one letter o ≡ Some x → bs ≡ right w (letter_text x)
  by_lone_letter None eo e = cc
  by_lone_letter (Some b) eo e = by_byte b (eqb b 77) (eqb b 80) (eqb b 68) eo refl refl refl e

  pub letter_right : letter_in bs ≡ Some x → bs ≡ right w (letter_text x)
  letter_right e = by_lone_letter (lone (unspaced bs)) refl e

pub right_letter : (w : ℕ) (x : Letter) → letter_in (right w (letter_text x)) ≡ Some x
right_letter w M = ap (λ (t : List ℕ). by_one letter (lone t)) (right_unspaced w (77 ∷ []) (λ e. omega arith))
right_letter w P = ap (λ (t : List ℕ). by_one letter (lone t)) (right_unspaced w (80 ∷ []) (λ e. omega arith))
right_letter w D = ap (λ (t : List ℕ). by_one letter (lone t)) (right_unspaced w (68 ∷ []) (λ e. omega arith))

pub length_letter : (x : Letter) → length (right 2 (letter_text x)) ≡ 2
length_letter M = refl
length_letter P = refl
length_letter D = refl

-- carries
module _ (w : ℕ) (bs : List ℕ) (x : Bool) (l : length bs ≡ w) where
  carried : (y : Bool) (n k : ℕ) → number_in bs ≡ Some n → n ≡ k → k < 10 → carry_text y ≡ (48 + k) ∷ [] → y ≡ x → bs ≡ right w (carry_text x)
  carried y n k en i low t j =
      let P : Bool → Type 0 = λ z. bs ≡ right w (carry_text z) in
      subst P j ((number_right w bs n l en).1 ∙ ap (λ (z : ℕ). right w (decimal z)) i ∙ ap (right w) (decimal_digit k low ∙ sym t))

  by_flag : (n : ℕ) (p q : Bool) → number_in bs ≡ Some n → eqb n 0 ≡ p → eqb n 1 ≡ q → cond p (Some false) (cond q (Some true) None) ≡ Some x → bs ≡ right w (carry_text x)
  by_flag n true q en ep eq e = carried false n 0 en (eqb-true n 0 ep) (omega arith) refl cc
  by_flag n false true en ep eq e = carried true n 1 en (eqb-true n 1 eq) (omega arith) refl cc
  by_flag n false false en ep eq e = cc

  by_number_flag : (o : Option ℕ) → number_in bs ≡ o → flag o ≡ Some x → bs ≡ right w (carry_text x)
  by_number_flag None en e = cc
  by_number_flag (Some n) en e = by_flag n (eqb n 0) (eqb n 1) en refl refl e

  pub carry_right : flag (number_in bs) ≡ Some x → bs ≡ right w (carry_text x)
  carry_right e = by_number_flag (number_in bs) refl e

pub right_carry : (x : Bool) → flag (number_in (right 2 (carry_text x))) ≡ Some x
right_carry false = refl
right_carry true = refl

pub length_carry : (x : Bool) → length (right 2 (carry_text x)) ≡ 2
length_carry false = refl
length_carry true = refl

-- blanks
pub blank_is : (bs : List ℕ) → blank bs ≡ true → bs ≡ replicate (length bs) 32
blank_is [] e = refl
blank_is (b ∷ bs) e =
    let p = and_parts (eqb b 32) (blank bs) e in
    let i : b ≡ 32 = eqb-true b 32 p.0 in
    let ih = blank_is bs p.1 in
    ap (λ (x : ℕ). x ∷ bs) i ∙ ap (λ (t : List ℕ). 32 ∷ t) ih

pub is_blank : (k : ℕ) → blank (replicate k 32) ≡ true
is_blank zero = refl
is_blank (suc k) = is_blank k
