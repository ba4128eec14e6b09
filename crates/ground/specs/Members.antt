-- Which numbers stand in a list. Assumes nothing.
use Rattle.std.specs.Prelude.{ℕ, Bool, false, ◌||◌, List, [], ◌∷◌, Some, None, Option, ◌==◌}

-- whether d stands in a list
abbrev pub has : ℕ → List ℕ → Bool
has d [] = false
has d (x ∷ xs) = d == x || has d xs

-- a list with one more number in front, if there is one
abbrev pub onto : Option ℕ → List ℕ → List ℕ
onto (Some x) xs = x ∷ xs
onto None xs = xs

-- those of a list that are there
abbrev pub somes : List (Option ℕ) → List ℕ
somes [] = []
somes (o ∷ os) = onto o (somes os)
