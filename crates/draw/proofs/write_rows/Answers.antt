use Rattle.std.proofs.Common.{min, subst, ◌<◌, ◌≡◌, ℕ, ◌+◌, ◌-◌, ◌*◌, ◌≤◌, List, ◌++◌, length, take, drop, refl, sym, ap, ◌∙◌, arith, length-append, length-take, rules}
use borrow.Rule.Slice.PartMut.{put_mid}
use Rattle.std.specs.Slice.Iter.{chunks_rest}
use Rattle.std.specs.Iterator.Adapters.{enumerate_count, enumerate_source}
use Rattle.std.proofs.lemmas.List.{append_assoc, append-nil, length-take-le, take-append-drop, drop-drop}
use Rattle.std.proofs.lemmas.Slice.{take-put_mid, drop-put_mid}
use Rattle.draw.specs.Rows.{row_text, text}
use Rattle.draw.proofs.Texts.{text_split, text_none, length_row}
use Rattle.draw.proofs.write_rows.Goals as goal
use Rattle.draw.proofs.write_rows.Invariants.{Going, Whole}

-- There is room for the row x.
room : (hs out rest x t : List ℕ) (at : ℕ) → at ≤ length out → length (text hs) ≤ length out → take at out ++ text rest ≡ text hs → text rest ≡ row_text x ++ text t
    → at + 3 * length x + 1 ≤ length out
room hs out rest x t at far fits inv split =
    let a = length-take-le at out far in
    let b = length-append (take at out) (text rest) in
    let d = ap length inv in
    let e = ap length split ∙ length-append (row_text x) (text t) in
    let r = length_row x in
    omega arith

-- With it drawn, what is drawn and what is left is still the whole.
drawn : (hs out rest x t ys : List ℕ) (at n k : ℕ) → at ≤ length out → n ≡ at + length ys → ys ≡ row_text x → take at out ++ text rest ≡ text hs → text rest ≡ row_text x ++ text t
    → take n (put_mid at k out ys) ++ text t ≡ text hs
drawn hs out rest x t ys at n k far e y inv split =
    ap (λ (l : List ℕ). l ++ text t) (take-put_mid at k out ys n e far ∙ ap (λ (l : List ℕ). take at out ++ l) y)
    ∙ append_assoc (take at out) (row_text x) (text t)
    ∙ ap (λ (l : List ℕ). take at out ++ l) (sym split) ∙ inv

-- And the buffer behind is as it was.
behind : (out was ys : List ℕ) (at n k : ℕ) → at ≤ length out → n ≡ at + k → length ys ≡ k → drop at out ≡ drop at was → drop n (put_mid at k out ys) ≡ drop n was
behind out was ys at n k far e l same =
    drop-put_mid at k out ys n (omega arith) far l
    ∙ ap (λ (m : ℕ). drop m out) e ∙ sym (drop-drop k at out) ∙ ap (drop k) same ∙ drop-drop k at was ∙ ap (λ (m : ℕ). drop m was) (sym e)

-- With nothing left, the whole stands in front.
whole : (hs out was rest : List ℕ) (at : ℕ) → at ≤ length out → take at out ++ text rest ≡ text hs → length rest ≡ 0 → drop at out ≡ drop at was
    → (at ≡ length (text hs)) × (out ≡ text hs ++ drop (length (text hs)) was)
whole hs out was rest at far inv none same =
    let all : take at out ≡ text hs = sym (append-nil (take at out)) ∙ ap (λ (l : List ℕ). take at out ++ l) (sym (text_none rest none)) ∙ inv in
    let n : at ≡ length (text hs) = sym (length-take-le at out far) ∙ ap length all in
    (n, sym (take-append-drop at out) ∙ ap (λ (l : List ℕ). l ++ drop at out) all ∙ ap (λ (l : List ℕ). text hs ++ l) (same ∙ ap (λ (m : ℕ). drop m was) n))

-- A row more is drawn at the place of its number.
onward : (hs out was rest x t ys : List ℕ) (n i m k : ℕ) → i ≡ n → m ≡ n + 1 → k ≡ 3 * length x + 1 → length (text hs) ≤ length out → Going hs was out rest n
    → rest ≡ x ++ t → length x ≡ min 16 (length rest) → 0 < length rest → ys ≡ row_text x
    → (0 < length t → Going hs was (put_mid (49 * i) k out ys) t m) × (length t ≡ 0 → Whole hs was (put_mid (49 * i) k out ys))
onward hs out was rest x t ys n i m k ei em ek fits g e l h y =
    let split = text_split rest x t e l h in
    let end = 49 * i + 3 * length x + 1 in
    let near = room hs out rest x t (49 * n) g.0 fits g.1 split in
    let long : length ys ≡ 3 * length x + 1 = ap length y ∙ length_row x in
    let here : Going hs was out rest i = subst (λ (j : ℕ). Going hs was out rest j) (sym ei) g in
    let front = drawn hs out rest x t ys (49 * i) end k here.0 (omega arith) y here.1 split in
    let back = behind out was ys (49 * i) end k here.0 (omega arith) (omega arith) here.2 in
    let new = put_mid (49 * i) k out ys in
    let drawn_to = ap length (take-put_mid (49 * i) k out ys end (omega arith) here.0) ∙ length-append (take (49 * i) out) ys in
    let far : end ≤ length new = omega (arith, drawn_to, length-take-le (49 * i) out here.0, length-take end new) in
    let both = ap length e ∙ length-append x t in (
      λ some.
          let step : end ≡ 49 * m = omega arith in
          subst (λ (j : ℕ). (j ≤ length new) × (take j new ++ text t ≡ text hs) × (drop j new ≡ drop j was)) step
          (far, front, back),
      λ none. (whole hs new was t end far front none back).1,
    )

-- Before the first row.
begun : (hs out rest : List ℕ) (n : ℕ) → rest ≡ hs → n ≡ 0 → (0 < length rest → Going hs out out rest n) × (length rest ≡ 0 → Whole hs out out)
begun hs out rest n e z = (
  λ some. (omega arith, ap (λ (j : ℕ). take (49 * j) out ++ text rest) z ∙ ap text e, refl),
  λ none.
      let nothing = text_none hs (sym (ap length e) ∙ none) in
      sym (ap (λ (l : List ℕ). l ++ drop (length l) out) nothing),
)

pub loop-i-init : goal.loop-i-init
loop-i-init c =
    let rest : chunks_rest (enumerate_source c.into_iter-i-iterator.result) ≡ c.args.heights.now = search rules in
    let none : enumerate_count c.into_iter-i-iterator.result ≡ 0 = search rules in
    let w = begun c.args.heights.now c.args.out.now (chunks_rest (enumerate_source c.into_iter-i-iterator.result)) (enumerate_count c.into_iter-i-iterator.result) rest none in
    (search rules, tt, search rules, w.0, w.1)

pub slice_bounds-write_row-end : goal.slice_bounds-write_row-end
slice_bounds-write_row-end c =
    let s = c.in-Some.ensures.steps in
    let at = s.1 in
    let rest = chunks_rest (enumerate_source c.loop-i.i-iterator) in
    let split = text_split rest c.in-Some.row.now (chunks_rest (enumerate_source c.next.new.self)) s.0.1.0 (s.0.1.1 ∙ ap (λ (n : ℕ). min n (length rest)) c.loop-i.invariant.2) s.0.1.2 in
    let g = c.loop-i.invariant.3 s.0.1.2 in
    let h = room c.args.heights.now c.loop-i.out rest c.in-Some.row.now (chunks_rest (enumerate_source c.next.new.self)) (49 * enumerate_count c.loop-i.i-iterator) g.0 (omega arith) g.1 split in
    omega arith

pub loop-i-preserved : goal.loop-i-preserved
loop-i-preserved c =
    let s = c.in-Some.ensures.steps in
    let rest = chunks_rest (enumerate_source c.loop-i.i-iterator) in
    let w =
    onward c.args.heights.now c.loop-i.out c.args.out.now rest c.in-Some.row.now (chunks_rest (enumerate_source c.next.new.self)) c.write_row.new.out
    (enumerate_count c.loop-i.i-iterator) c.in-Some.i (enumerate_count c.next.new.self) (49 * c.in-Some.i + 3 * length c.in-Some.row.now + 1 - 49 * c.in-Some.i)
    s.1 s.2 (omega arith) (omega arith) (c.loop-i.invariant.3 s.0.1.2) s.0.1.0 (s.0.1.1 ∙ ap (λ (n : ℕ). min n (length rest)) c.loop-i.invariant.2) s.0.1.2 c.write_row.ensures in
    (search rules, tt, search rules, w.0, w.1)

pub returns : goal.returns
returns c = c.loop-i.invariant.4 (search rules)
