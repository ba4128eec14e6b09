use Rattle.std.proofs.Common.{◌≡◌, ℕ, suc, ◌+◌, ◌*◌, ◌<◌, ◌≤◌, List, [], ◌∷◌, ◌++◌, length, get_or, take, set, sym, ap, ◌∙◌, arith, rules}
use borrow.Rule.Slice.PartMut.{put_mid}
use Rattle.std.specs.List.{flat_map}
use Rattle.std.proofs.lemmas.List.{take_more, take_all, drop_all, flat_map_more, set_split}
use Rattle.std.proofs.lemmas.Slice.{take-put_mid}
use Rattle.draw.specs.Places.{justified}
use Rattle.draw.specs.Rows.{cell, row_text}
use Rattle.draw.proofs.Digits.{cell_justified}
use Rattle.draw.proofs.write_row.Goals as goal

-- One cell more.
step : (hs out ys : List ℕ) (i k : ℕ) → i < length hs → 3 * i ≤ length out → take (3 * i) out ≡ flat_map cell (take i hs) → ys ≡ cell (get_or hs i 0)
    → take (3 * (i + 1)) (put_mid (3 * i) k out ys) ≡ flat_map cell (take (i + 1) hs)
step hs out ys i k h far inv e =
    let three : length ys ≡ 3 = ap length e in
    take-put_mid (3 * i) k out ys (3 * (i + 1)) (omega arith) far
    ∙ ap (λ (p : List ℕ). p ++ ys) inv ∙ ap (λ (y : List ℕ). flat_map cell (take i hs) ++ y) e
    ∙ flat_map_more cell [] (take i hs) (get_or hs i 0)
    ∙ ap (flat_map cell) (sym (take_more hs i 0 h))

-- The newline behind them all.
close : (hs out : List ℕ) (i : ℕ) → length hs ≡ i → length out ≡ 3 * length hs + 1 → take (3 * i) out ≡ flat_map cell (take i hs) → set out (3 * length hs) 10 ≡ row_text hs
close hs out i e long inv =
    set_split out (3 * length hs) 10 (omega arith)
    ∙ ap (λ (t : List ℕ). take (3 * length hs) out ++ (10 ∷ t)) (drop_all (suc (3 * length hs)) out (omega arith))
    ∙ ap (λ (n : ℕ). take (3 * n) out ++ (10 ∷ [])) e
    ∙ ap (λ (t : List ℕ). t ++ (10 ∷ [])) (inv ∙ ap (flat_map cell) (take_all i hs (omega arith)))

pub loop-i-preserved : goal.loop-i-preserved
loop-i-preserved c =
    let wide = c.copy_from_slice.ensures.after ∙ c.justified.ensures.value ∙ ap (justified 3) c.from.ensures ∙ cell_justified (get_or c.args.heights.now c.loop-i.i 0) (search rules) in
    step c.args.heights.now c.loop-i.out c.copy_from_slice.new.self c.loop-i.i _ (omega arith) (omega arith) c.loop-i.invariant wide

pub returns : goal.returns
returns c = close c.args.heights.now c.loop-i.out c.loop-i.i (omega arith) (omega arith) c.loop-i.invariant
