-- What is written piece by piece, as one text. Assumes nothing.
use Rattle.std.proofs.Common.{◌≡◌, ℕ, ◌+◌, List, [], ◌∷◌, ◌++◌, decimal, ap, sym, ◌∙◌, append_assoc, arith}
use Rattle.std.specs.List.{flat_map, range_with_len}
use Rattle.std.proofs.lemmas.List.{flat_map_more, map-id}
use Rattle.std.proofs.lemmas.List.FromFn.{map-range_with_len_more}

-- one number more
number_more : (i : ℕ) → range_with_len 0 (i + 1) ≡ range_with_len 0 i ++ i ∷ []
number_more i = sym (map-id (range_with_len 0 (i + 1))) ∙ map-range_with_len_more (λ (c : ℕ). c) 0 i i (omega arith) ∙ ap (λ is. is ++ i ∷ []) (map-id (range_with_len 0 i))

-- one piece more of many
pub one_piece : (f : ℕ → List ℕ) (old before after : List ℕ) (i : ℕ) → before ≡ old ++ flat_map f (range_with_len 0 i) → after ≡ before ++ f i
    → after ≡ old ++ flat_map f (range_with_len 0 (i + 1))
one_piece f old before after i eb ea =
    ea ∙ ap (λ x. x ++ f i) eb ∙ flat_map_more f old (range_with_len 0 i) i ∙ ap (λ is. old ++ flat_map f is) (sym (number_more i))

-- three numbers, each behind its name
pub three_named : (old a b c x y z : List ℕ) (k l m p q r : ℕ) → a ≡ old ++ (x ++ decimal k) → b ≡ a ++ (y ++ decimal l) → c ≡ b ++ (z ++ decimal m)
    → k ≡ p → l ≡ q → m ≡ r → c ≡ old ++ (x ++ (decimal p ++ (y ++ (decimal q ++ (z ++ decimal r)))))
three_named old a b c x y z k l m p q r ea eb ec ek el em = grind (arith, append_assoc)
