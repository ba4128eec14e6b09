-- Fields: decimal numbers, letters and marks, justified to the right and filled with spaces. Assumes nothing.
use Rattle.std.specs.Prelude.{◌≡◌, ℕ, ◌+◌, ◌-◌, ◌*◌, ◌^◌, ◌<◌, ◌≤◌, Bool, true, false, cond, List, [], ◌∷◌, ◌++◌, length, replicate, Some, None, decimal, Option, ◌==◌, nat_le, option_and_then}
use Rattle.std.specs.List.{list_all}
use Rattle.std.specs.Option.{option_map}
use Rattle.sheet.specs.declared.record.Letter.{Letter}
use Rattle.sheet.specs.declared.record.Letter.TheVariants.{M, P, D}
use Rattle.sheet.specs.declared.record.Place.{Place}
use Rattle.sheet.specs.declared.record.Place.TheVariants.{Outside, At}

-- whether a byte is a decimal digit
abbrev pub digit : ℕ → Bool
digit b = cond (nat_le 48 b) (nat_le b 57) false

-- a number so far, and the digits to come
abbrev pub digits : ℕ → List ℕ → Option ℕ
digits n [] = Some n
digits n (b ∷ bs) = cond (digit b) (digits (n * 10 + (b - 48)) bs) None

-- at least one digit, and no 0 before another
abbrev pub plain : List ℕ → Option ℕ
plain [] = None
plain (b ∷ []) = digits 0 (b ∷ [])
plain (b ∷ c ∷ bs) = cond (b == 48) None (digits 0 (b ∷ c ∷ bs))

-- what is left after the spaces in front
abbrev pub unspaced : List ℕ → List ℕ
unspaced [] = []
unspaced (b ∷ bs) = cond (b == 32) (unspaced bs) (b ∷ bs)

-- the number in a field, which is at most nine bytes wide
abbrev pub number_in : List ℕ → Option ℕ
number_in bs = cond (nat_le (length bs) 9) (plain (unspaced bs)) None

-- a field of at most nine bytes shows n: spaces, and then n in decimal
pub record Shows (bs : List ℕ) (n : ℕ) : Type 0 where
  pub narrow : length bs ≤ 9
  pub small : n < 10 ^ 9
  pub spaces : ℕ
  pub text : bs ≡ replicate spaces 32 ++ decimal n

-- the one byte that is no space, or none
abbrev pub lone : List ℕ → Option ℕ
lone [] = None
lone (b ∷ []) = Some b
lone (b ∷ c ∷ bs) = None

-- M, P or D
abbrev pub letter : ℕ → Option Letter
letter b = cond (b == 77) (Some M) (cond (b == 80) (Some P) (cond (b == 68) (Some D) None))

abbrev pub by_one : {X : Type 0} → (ℕ → Option X) → Option ℕ → Option X
by_one f o = option_and_then f o

abbrev pub letter_in : List ℕ → Option Letter
letter_in bs = by_one letter (lone (unspaced bs))

-- a column or a height: a number, or the mark (83 for S, 69 for E) that stands for outside
abbrev pub numbered : Option ℕ → Option Place
numbered o = option_map At o

abbrev pub is : ℕ → Option ℕ → Bool
is mark None = false
is mark (Some b) = b == mark

abbrev pub place_in : ℕ → List ℕ → Option Place
place_in mark bs = cond (is mark (lone (unspaced bs))) (Some Outside) (numbered (number_in bs))

-- 0 or 1
abbrev pub flag : Option ℕ → Option Bool
flag None = None
flag (Some n) = cond (n == 0) (Some false) (cond (n == 1) (Some true) None)

abbrev pub blank : List ℕ → Bool
blank bs = list_all (λ b. b == 32) bs
