-- A column that is not yet home has a lowest column beside it that is one step nearer. Assumes nothing.
use Rattle.std.proofs.Common.{◌≡◌, ℕ, suc, ◌<◌, ◌≤◌, Bool, true, ◌⊎◌, Some, ap, ◌∙◌, inl, inr, arith}
use Rattle.std.proofs.lemmas.Bool.{cases_lt, both_ways}
use Rattle.ground.specs.Meaning.{Meaning, Lawful}
use Rattle.ways.specs.Way.{Relief, Beside, Near}
use Rattle.ways.specs.Table.{label, after, steps, lower, nearer, nearer_by}
use Rattle.ways.proofs.Firsts.{first_some, first_there}
use Rattle.ways.proofs.Tests.{Lower, lower_decides}
use Rattle.ways.proofs.Rounds.{Fresh, round_is}
use Rattle.ways.proofs.Exactness.{kept, stamp, in_table}

pub record Nearest (m : Meaning) (r : Relief) (n c d : ℕ) : Type 0 where
  pub is : nearer m r.heights (steps m r) c ≡ Some d
  pub labelled : steps m r d ≡ Some n
  pub link : m.linked c d ≡ true
  pub near : Near (r.heights c) (r.heights d)
  pub lowest : (e : ℕ) → Beside m r c n e → d ≤ e

module _ (m : Meaning) (r : Relief) (law : Lawful m) where
  one_there : (c n : ℕ) → steps m r c ≡ Some (suc n) → (d : ℕ) × (d < m.columns) × Lower m r.heights (steps m r) n c d
  unfolding steps
  one_there c n e =
      let t = stamp m r m.columns c (suc n) e in
      go t.0 (round_is m r n c (suc n) t.1)
    where
      go : suc n ≤ m.columns → (label (after m r n) c ≡ Some (suc n)) ⊎ Fresh m r n c (suc n) → (d : ℕ) × (d < m.columns) × Lower m r.heights (steps m r) n c d
      go l (inl f) = let p = stamp m r n c (suc n) f in absurd (omega arith)
      go l (inr f) =
          let low = f.from.2 in
          (f.from.0, f.from.1, (low.0, (low.1.0, kept m r n f.from.0 n low.1.1 m.columns (omega arith))))

  pub found : (c n : ℕ) → steps m r c ≡ Some (suc n) → (d : ℕ) × Nearest m r n c d
  found c n e =
      let test : ℕ → Bool = lower m r.heights (steps m r) n c in
      let o = one_there c n e in
      let t = first_there test m.columns o.0 o.1 ((lower_decides m r.heights (steps m r) n c o.0).1 o.2) in
      let f = first_some test m.columns t.0 t.1 in
      let low = (lower_decides m r.heights (steps m r) n c t.0).0 f.0 in (
        t.0,
        record {
          is = ap (nearer_by m r.heights (steps m r) c) e ∙ t.1;
          labelled = low.1.1;
          link = low.0;
          near = low.1.0;
          lowest = λ k b. elim (cases_lt k t.0) [
            | inl l ↦ absurd (both_ways (test k) (f.2 k l) ((lower_decides m r.heights (steps m r) n c k).1 (b.link, (b.near, in_table m r law k n b.steps))))
            | inr g ↦ g
          ];
        },
      )
