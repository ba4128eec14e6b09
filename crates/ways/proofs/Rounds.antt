-- The table round by round: where a label comes from, that it stays, and when a column gains one. Assumes nothing.
use Rattle.std.proofs.Common.{◌≡◌, ℕ, zero, suc, ◌<◌, ◌≤◌, Bool, true, false, cond, not, ◌&&◌, ◌⊎◌, length, Some, None, sym, ◌∙◌, inl, inr, arith}
use Rattle.std.proofs.lemmas.List.{get_or_past}
use Rattle.std.proofs.lemmas.List.FromFn.{get_or-map-range_with_len, length-map-range_with_len}
use Rattle.std.proofs.lemmas.Bool.{cases_lt, cases_Bool, and_parts, and_from, not-true, not_from_false, cond-true, cond-false}
use Rattle.ground.specs.Meaning.{Meaning}
use Rattle.ways.specs.Way.{Relief, Settled}
use Rattle.ways.specs.Table.{label, gains, first_label, next_label, after}
use Rattle.ways.proofs.Firsts.{none≢some}
use Rattle.ways.proofs.Tests.{Lower, gains_decides}

-- a label given under a test
from_cond : (b : Bool) (x k : ℕ) → cond b (Some x) None ≡ Some k → (b ≡ true) × (k ≡ x)
from_cond b x k e = grind arith

-- how a column that had none comes by the label k in round n
pub record Fresh (m : Meaning) (r : Relief) (n c k : ℕ) : Type 0 where
  pub unlabelled : label (after m r n) c ≡ None
  pub is : k ≡ suc n
  pub settled_here : Settled r c
  pub from : (d : ℕ) × (d < m.columns) × Lower m r.heights (label (after m r n)) n c d

module _ (m : Meaning) (r : Relief) where
  pub at_start : (c : ℕ) → c < m.columns → label (after m r 0) c ≡ first_label m r.changing c
  unfolding after
  at_start c h = get_or-map-range_with_len (first_label m r.changing) 0 m.columns c c None h (omega arith)

  pub at_round : (n c : ℕ) → c < m.columns → label (after m r (suc n)) c ≡ next_label m r (label (after m r n)) n c
  unfolding after
  at_round n c h = get_or-map-range_with_len (next_label m r (label (after m r n)) n) 0 m.columns c c None h (omega arith)

  length_after : (n : ℕ) → length (after m r n) ≡ m.columns
  unfolding after
  length_after zero = length-map-range_with_len (first_label m r.changing) 0 m.columns
  length_after (suc n) = length-map-range_with_len (next_label m r (label (after m r n)) n) 0 m.columns

  pub past : (n c : ℕ) → m.columns ≤ c → label (after m r n) c ≡ None
  past n c g = get_or_past (after m r n) c None (omega (arith, length_after n))

  -- only a column of the ground has a label
  pub inside : (n c k : ℕ) → label (after m r n) c ≡ Some k → c < m.columns
  inside n c k e = elim (cases_lt c m.columns) [ inl l ↦ l | inr g ↦ absurd (none≢some (sym (past n c g) ∙ e)) ]

  -- a label of the start
  pub first_is : (c k : ℕ) → label (after m r 0) c ≡ Some k → (k ≡ 0) × (m.border c ≡ true) × Settled r c
  first_is c k e =
      let p = from_cond (m.border c && not (r.changing c)) 0 k (sym (at_start c (inside 0 c k e)) ∙ e) in
      let q = and_parts (m.border c) (not (r.changing c)) p.0 in
      (p.1, q.0, not-true _ q.1)

  pub first_gains : (c : ℕ) → c < m.columns → m.border c ≡ true → Settled r c → label (after m r 0) c ≡ Some 0
  first_gains c l b h =
      at_start c l ∙ cond-true (m.border c && not (r.changing c)) (Some 0) None (and_from (m.border c) (not (r.changing c)) b (not_from_false _ h))

  -- a label after a round was there, or is fresh
  pub round_is : (n c k : ℕ) → label (after m r (suc n)) c ≡ Some k → (label (after m r n) c ≡ Some k) ⊎ Fresh m r n c k
  round_is n c k e = go (cases_Bool (gains m r (label (after m r n)) n c)) (sym (at_round n c (inside (suc n) c k e)) ∙ e)
    where
      go : (gains m r (label (after m r n)) n c ≡ true) ⊎ (gains m r (label (after m r n)) n c ≡ false)
          → next_label m r (label (after m r n)) n c ≡ Some k → (label (after m r n) c ≡ Some k) ⊎ Fresh m r n c k
      go (inl g) f =
          let p = (gains_decides m r (label (after m r n)) n c).0 g in
          let new = sym (cond-true (gains m r (label (after m r n)) n c) (Some (suc n)) (label (after m r n) c) g) ∙ f in
          inr (record { unlabelled = p.0; is = let i : suc n ≡ k = cc in omega arith; settled_here = p.1.0; from = p.1.1 })
      go (inr g) f = inl (sym (cond-false (gains m r (label (after m r n)) n c) (Some (suc n)) (label (after m r n) c) g) ∙ f)

  pub stays : (n c k : ℕ) → label (after m r n) c ≡ Some k → label (after m r (suc n)) c ≡ Some k
  stays n c k e = elim (cases_Bool (gains m r (label (after m r n)) n c)) [
    | inl g ↦ absurd (none≢some (sym ((gains_decides m r (label (after m r n)) n c).0 g).0 ∙ e))
    | inr g ↦ at_round n c (inside n c k e) ∙ cond-false (gains m r (label (after m r n)) n c) (Some (suc n)) (label (after m r n) c) g ∙ e
  ]

  pub round_gains : (n c d : ℕ) → c < m.columns → d < m.columns → label (after m r n) c ≡ None → Settled r c → Lower m r.heights (label (after m r n)) n c d
      → label (after m r (suc n)) c ≡ Some (suc n)
  round_gains n c d lc ld e h low =
      at_round n c lc
      ∙ cond-true (gains m r (label (after m r n)) n c) (Some (suc n)) (label (after m r n) c) ((gains_decides m r (label (after m r n)) n c).1 (e, (h, (d, ld, low))))
