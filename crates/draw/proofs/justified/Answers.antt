use Rattle.std.proofs.Common.{◌≡◌, ℕ, ◌+◌, ◌-◌, ◌≤◌, min, List, ◌++◌, length, replicate, take, drop, decimal, ap, ◌∙◌, arith}
use borrow.Rule.Slice.PartMut.{put_mid}
use Rattle.std.proofs.lemmas.List.{drop_all, take_all, append-nil, take-replicate, length-replicate, length-drop}
use Rattle.draw.proofs.justified.Goals as goal

-- What is put at the end of a list stands behind what the list begins with.
at_end : (xs ys : List ℕ) (a k : ℕ) → length xs ≤ a + k → put_mid a k xs ys ≡ take a xs ++ ys
at_end xs ys a k h =
    ap (λ (t : List ℕ). take a xs ++ (ys ++ t)) (drop_all k (drop a xs) (simp length-drop (omega arith)))
    ∙ ap (λ (t : List ℕ). take a xs ++ t) (append-nil ys)

-- The digits stand behind the spaces.
placed : (w m k : ℕ) (digits ys : List ℕ) → m ≡ min (length digits) w → k ≡ w - (w - m) → ys ≡ drop (length digits - m) digits
    → put_mid (w - m) k (replicate w 32) ys ≡ replicate (w - length digits) 32 ++ drop (length digits - w) digits
placed w m k digits ys e f y =
    let spaces : w - m ≡ w - length digits = omega arith in
    let cut : length digits - m ≡ length digits - w = omega arith in
    at_end (replicate w 32) ys (w - m) k (simp length-replicate (omega arith))
    ∙ ap (λ (t : List ℕ). t ++ ys) (take-replicate (w - m) w 32 (omega arith) ∙ ap (λ (n : ℕ). replicate n 32) spaces)
    ∙ ap (λ (t : List ℕ). replicate (w - length digits) 32 ++ t) (y ∙ ap (λ (n : ℕ). drop n digits) cut)

-- What lies from an index on is the whole rest.
from_index : (xs : List ℕ) (a : ℕ) → take (length xs - a) (drop a xs) ≡ drop a xs
from_index xs a = take_all (length xs - a) (drop a xs) (simp length-drop (omega arith))

pub returns-clause-value : goal.returns-clause-value
returns-clause-value g c =
    let shown = c.as_bytes-digits.ensures.value ∙ c.format.ensures.text in
    placed g.row.N c.min-shown.result _ (decimal c.args.n) c.copy_from_slice.new.self
    (c.min-shown.ensures ∙ ap (λ (l : List ℕ). min (length l) g.row.N) shown)
    (ap (λ (n : ℕ). n - (g.row.N - c.min-shown.result)) (length-replicate g.row.N 32))
    (c.copy_from_slice.ensures.after ∙ from_index c.as_bytes-digits.result.now _ ∙ ap (λ (l : List ℕ). drop (length l - c.min-shown.result) l) shown)

-- Where all digits have room none is cut off.
pub returns-clause-words : goal.returns-clause-words
returns-clause-words g c fits =
    let digits = decimal c.args.n in
    let all : length digits - g.row.N ≡ 0 = omega arith in
    returns-clause-value g c ∙ ap (λ (k : ℕ). replicate (g.row.N - length digits) 32 ++ drop k digits) all
