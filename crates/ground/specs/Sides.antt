-- The columns on the four sides of a column of the square ground. Assumes nothing.
use Rattle.std.specs.Prelude.{ℕ, ◌+◌, ◌-◌, ◌*◌, ◌%◌, Bool, cond, List, [], ◌∷◌, Some, None, Option, nat_le, nat_lt}

-- a column, where a test says that it is there
abbrev pub where_so : Bool → ℕ → Option ℕ
where_so b d = cond b (Some d) None

-- in rising order, where there are such columns
abbrev pub sides_of : ℕ → ℕ → ℕ → List (Option ℕ)
sides_of x y c =
    cond (nat_lt c (x * y)) (where_so (nat_le y c) (c - y) ∷ where_so (nat_lt 0 (c % y)) (c - 1) ∷ where_so (nat_lt (c % y + 1) y) (c + 1) ∷ where_so (nat_lt (c + y) (x * y)) (c + y) ∷ []) (None ∷ None ∷ None ∷ None ∷ [])
