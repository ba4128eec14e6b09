-- The table after as many rounds as there are columns is exact: each label is the least number of steps of a way home,
-- and a column with a way home has a label. Assumes nothing.
use Rattle.std.proofs.Common.{◌≡◌, ℕ, zero, suc, ◌<◌, ◌≤◌, true, false, ◌⊎◌, is_some, Some, None, Option, sym, refl, ap, ◌∙◌, subst, inl, inr, arith}
use native.Mathlib.Decide.{le_ind}
use Rattle.std.proofs.lemmas.Bool.{cases_eq, false≢true}
use Rattle.ground.specs.Meaning.{Meaning, Lawful}
use Rattle.ways.specs.Way.{Relief, Way, Fewest, StepsHome}
use Rattle.ways.specs.Way.Way.{home, onward}
use Rattle.ways.specs.Table.{label, after, steps}
use Rattle.ways.proofs.Counts.{count, count_le, count_more}
use Rattle.ways.proofs.Firsts.{none≢some}
use Rattle.ways.proofs.Rounds.{Fresh, inside, first_is, first_gains, round_is, stays, round_gains}

label_of : (o : Option ℕ) → is_some o ≡ true → (n : ℕ) × (o ≡ Some n)
label_of None e = absurd (false≢true e)
label_of (Some n) e = (n, refl)

module _ (m : Meaning) (r : Relief) where
  -- a label stays for all later rounds
  pub kept : (n c k : ℕ) → label (after m r n) c ≡ Some k → (j : ℕ) → n ≤ j → label (after m r j) c ≡ Some k
  kept n c k e j l = le_ind (λ i. label (after m r i) c ≡ Some k) e (λ i _ f. stays m r i c k f) j l

  -- a label says in which round it was given
  pub stamp : (n c k : ℕ) → label (after m r n) c ≡ Some k → (k ≤ n) × (label (after m r k) c ≡ Some k)
  stamp zero c k e = let p = first_is m r c k e in grind arith
  stamp (suc n) c k e = let ih = stamp n c k in let was = round_is m r n c k e in grind arith

  sound_after : (n c k : ℕ) → label (after m r n) c ≡ Some k → Way m r c k
  sound_after zero c k e =
      let p = first_is m r c k e in
      subst (Way m r c) (sym p.0) (home p.1 p.2)
  sound_after (suc n) c k e = go (sound_after n) (round_is m r n c k e)
    where
      go : ((d j : ℕ) → label (after m r n) d ≡ Some j → Way m r d j) → (label (after m r n) c ≡ Some k) ⊎ Fresh m r n c k → Way m r c k
      go ih (inl f) = ih c k f
      go ih (inr f) =
          let low = f.from.2 in
          subst (Way m r c) (sym f.is) (onward low.0 low.1.0 f.settled_here (ih f.from.0 n low.1.1))

  -- a column with a way home of k steps is labelled in one of the first k rounds
  reached : Lawful m → {c k : ℕ} → Way m r c k → (j : ℕ) × (j ≤ k) × (label (after m r j) c ≡ Some j)
  reached law (home {c} b h) = (0, omega arith, first_gains m r c (law.at_border c b) b h)
  reached law (onward {c} {d} {n} link near h w) =
      let (j, l, e) = reached law w in
      (elim (label (after m r j) c) as (λ o. label (after m r j) c ≡ o → (i : ℕ) × (i ≤ suc n) × (label (after m r i) c ≡ Some i)) [
        | None ↦ λ q. (suc j, omega arith, round_gains m r j c d (law.within d c (law.both_ways c d link)) (law.within c d link) q h (link, (near, e)))
        | Some i ↦ λ q. let p = stamp j c i q in (i, omega arith, p.1)
      ]) refl

  -- each round that gives a label leaves fewer columns without
  grows : (n c : ℕ) → label (after m r n) c ≡ Some n → n < count (λ d. is_some (label (after m r n) d)) m.columns
  grows zero c e =
      let more = count_more (λ _. false) (λ d. is_some (label (after m r 0) d)) (λ k f. absurd (false≢true f)) c refl (ap is_some e) m.columns (inside m r 0 c 0 e) in
      omega arith
  grows (suc n) c e = go (grows n) (round_is m r n c (suc n) e)
    where
      go : ((d : ℕ) → label (after m r n) d ≡ Some n → n < count (λ d. is_some (label (after m r n) d)) m.columns)
          → (label (after m r n) c ≡ Some (suc n)) ⊎ Fresh m r n c (suc n)
          → suc n < count (λ d. is_some (label (after m r (suc n)) d)) m.columns
      go ih (inl f) = let q = stamp n c (suc n) f in absurd (omega arith)
      go ih (inr f) =
          let before = ih f.from.0 f.from.2.1.1 in
          let more = count_more (λ d. is_some (label (after m r n) d)) (λ d. is_some (label (after m r (suc n)) d))
          (λ d g. let q = label_of (label (after m r n) d) g in ap is_some (stays m r n d q.0 q.1))
          c (ap is_some f.unlabelled) (ap is_some e) m.columns (inside m r (suc n) c (suc n) e) in
          omega arith

  bounded : (n c : ℕ) → label (after m r n) c ≡ Some n → n < m.columns
  bounded n c e = omega (arith, grows n c e, count_le (λ d. is_some (label (after m r n) d)) m.columns)

  least_of : Lawful m → (c n k : ℕ) → label (after m r m.columns) c ≡ Some n → Way m r c k → n ≤ k
  least_of law c n k e w =
      let q = reached law w in
      let f = kept q.0 c q.0 q.2 m.columns (omega (arith, bounded q.0 c q.2)) in
      grind arith

  complete_of : Lawful m → (c k : ℕ) → Way m r c k → (n : ℕ) × (label (after m r m.columns) c ≡ Some n)
  complete_of law c k w =
      let q = reached law w in
      (q.0, kept q.0 c q.0 q.2 m.columns (omega (arith, bounded q.0 c q.2)))

pub record Exact (m : Meaning) (r : Relief) : Type 0 where
  pub sound : (c n : ℕ) → steps m r c ≡ Some n → Way m r c n
  pub least : (c n k : ℕ) → steps m r c ≡ Some n → Way m r c k → n ≤ k
  pub complete : (c k : ℕ) → Way m r c k → (n : ℕ) × (steps m r c ≡ Some n)

pub ways_exact : (m : Meaning) (r : Relief) → Lawful m → Exact m r
unfolding steps
ways_exact m r law = record { sound = sound_after m r m.columns; least = least_of m r law; complete = complete_of m r law }

module _ (m : Meaning) (r : Relief) (law : Lawful m) where
  pub steps_home : (c : ℕ) (o : Option ℕ) → steps m r c ≡ o → StepsHome m r c o
  steps_home c (Some n) e = record { way = (ways_exact m r law).sound c n e; least = λ k w. (ways_exact m r law).least c n k e w }
  steps_home c None e = λ n w. none≢some (sym e ∙ ((ways_exact m r law).complete c n w).1)

  -- the table has the fewest steps
  pub in_table : (c n : ℕ) → Fewest m r c n → steps m r c ≡ Some n
  in_table c n f =
      let x = ways_exact m r law in
      let s = x.complete c n f.way in
      let same : s.0 ≡ n = omega (arith, f.least s.0 (x.sound c s.0 s.1), x.least c s.0 n s.1 f.way) in
      s.1 ∙ ap Some same

-- where a round adds nothing, no later round does
module _ (m : Meaning) (r : Relief) (n : ℕ) (still : (c : ℕ) → label (after m r (suc n)) c ≡ label (after m r n) c) where
  adds_nothing : (j : ℕ) → n ≤ j → ((c : ℕ) → label (after m r j) c ≡ label (after m r n) c) → (c : ℕ) (o : Option ℕ)
      → label (after m r (suc j)) c ≡ o → label (after m r (suc j)) c ≡ label (after m r n) c
  adds_nothing j l same c None e = e ∙ sym (none_before (label (after m r n) c) refl)
    where
      none_before : (o : Option ℕ) → label (after m r n) c ≡ o → label (after m r n) c ≡ None
      none_before None q = q
      none_before (Some k) q = absurd (none≢some (sym e ∙ stays m r j c k (same c ∙ q)))
  adds_nothing j l same c (Some k) e = go (cases_eq n j) (round_is m r j c k e)
    where
      go : (n ≡ j) ⊎ (n ≡ j → ⊥) → (label (after m r j) c ≡ Some k) ⊎ Fresh m r j c k → label (after m r (suc j)) c ≡ label (after m r n) c
      go (inl i) f = ap (λ x. label (after m r (suc x)) c) (sym i) ∙ still c
      go (inr i) (inl f) = e ∙ sym (sym (same c) ∙ f)
      go (inr i) (inr f) = let d = f.from.0 in let p = stamp m r n d j (sym (same d) ∙ f.from.2.1.1) in absurd (omega arith)

  pub ended : (j : ℕ) → n ≤ j → (c : ℕ) → label (after m r j) c ≡ label (after m r n) c
  ended j l = le_ind (λ i. (c : ℕ) → label (after m r i) c ≡ label (after m r n) c) (λ c. refl) (λ i g h c. adds_nothing i g h c (label (after m r (suc i)) c) refl) j l
