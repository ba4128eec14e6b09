-- A round may be made in place: the labels that it gives are not those that it looks for. Assumes nothing.
use Rattle.std.proofs.Common.{◌≡◌, ℕ, suc, ◌+◌, ◌<◌, ◌≤◌, Bool, true, false, cond, not, ◌&&◌, ltb, ◌≢◌, ◌⊎◌, length, replicate, set, is_some, Some, None, Option, sym, refl, ap, ◌∙◌, subst, inl, inr, add-one, arith}
use Rattle.std.proofs.lemmas.List.{get_or-replicate, get_or-set_same, get_or-set_other, get_or_past, length-replicate}
use Rattle.std.proofs.lemmas.Bool.{and_left, cases_lt, cases_eq, cases_Bool, cond-true, cond-false, lt-ltb, le-ltb, ne_eqb}
use Rattle.ground.specs.Meaning.{Lawful, Meaning}
use Rattle.ways.specs.Way.{Relief}
use Rattle.ways.specs.Table.{Table, Relabelled, label, is_label, near, lower, lowest_beside, first_below, gains, first_label, next_label, after, steps}
use Rattle.ways.proofs.Tests.{gains_decides}
use Rattle.ways.proofs.Rounds.{at_start, at_round, past}
use Rattle.ways.proofs.Exactness.{ended}

-- a table without labels
pub blank : (c : ℕ) → label (replicate 256 None) c ≡ None
blank c = elim (cases_lt c 256) [
  | inl l ↦ get_or-replicate 256 c None None l
  | inr g ↦ let t : Table = replicate 256 None in get_or_past t c None (omega (arith, length-replicate {A = Option ℕ} 256 None))
]

module _ (new old : ℕ → Option ℕ) (us : Table) where
  pub none_yet : ((e : ℕ) → label us e ≡ old e) → Relabelled new old us 0
  none_yet h e = h e ∙ sym (cond-false (ltb e 0) (new e) (old e) (le-ltb e 0 (omega arith)))

  not_yet : (c : ℕ) → Relabelled new old us c → label us c ≡ old c
  not_yet c h = h c ∙ cond-false (ltb c c) (new c) (old c) (le-ltb c c (omega arith))

  -- one column more, by a table that has the new label there and is else the same
  one_more : (vs : Table) (c : ℕ) → Relabelled new old us c → label vs c ≡ new c → ((e : ℕ) → e ≢ c → label vs e ≡ label us e) → Relabelled new old vs (c + 1)
  one_more vs c h here else e = elim (cases_eq e c) [
    | inl i ↦ ap (label vs) i ∙ here ∙ sym (ap new i) ∙ sym (cond-true (ltb e (c + 1)) (new e) (old e) (lt-ltb e (c + 1) (omega arith)))
    | inr i ↦ else e i ∙ h e ∙ same e i (cases_lt e c)
  ]
    where
      same : (e : ℕ) → e ≢ c → (e < c) ⊎ (c ≤ e) → cond (ltb e c) (new e) (old e) ≡ cond (ltb e (c + 1)) (new e) (old e)
      same e i (inl l) = cond-true (ltb e c) (new e) (old e) (lt-ltb e c l) ∙ sym (cond-true (ltb e (c + 1)) (new e) (old e) (lt-ltb e (c + 1) (omega arith)))
      same e i (inr l) = cond-false (ltb e c) (new e) (old e) (le-ltb e c l) ∙ sym (cond-false (ltb e (c + 1)) (new e) (old e) (le-ltb e (c + 1) (omega arith)))

  pub one_set : (c : ℕ) (o : Option ℕ) → Relabelled new old us c → c < length us → o ≡ new c → Relabelled new old (set us c o) (c + 1)
  one_set c o h l e = one_more (set us c o) c h (get_or-set_same us c o None l ∙ e) (λ d i. get_or-set_other us c d o None i)

  one_kept : (c : ℕ) → Relabelled new old us c → old c ≡ new c → Relabelled new old us (c + 1)
  one_kept c h e = one_more us c h (not_yet c h ∙ e) (λ d i. refl)

module _ (m : Meaning) (r : Relief) (n : ℕ) (old : ℕ → Option ℕ) where
  abbrev pub new : ℕ → Option ℕ
  new = next_label m r old n

  fresh_unseen : (e : ℕ) → is_label (new e) n ≡ is_label (old e) n
  fresh_unseen e = elim (cases_Bool (gains m r old n e)) [
    | inl g ↦ ap (λ o. is_label o n) (cond-true (gains m r old n e) (Some (suc n)) (old e) g) ∙ ne_eqb (suc n) n (λ i. omega arith)
        ∙ sym (ap (λ o. is_label o n) ((gains_decides m r old n e).0 g).0)
    | inr g ↦ ap (λ o. is_label o n) (cond-false (gains m r old n e) (Some (suc n)) (old e) g)
  ]

  unseen : (us : Table) (c : ℕ) → Relabelled new old us c → (e : ℕ) → is_label (label us e) n ≡ is_label (old e) n
  unseen us c h e = ap (λ o. is_label o n) (h e) ∙ go (ltb e c)
    where
      go : (b : Bool) → is_label (cond b (new e) (old e)) n ≡ is_label (old e) n
      go true = fresh_unseen e
      go false = refl

  -- so the test at c sees what it would have seen before the round
  gains_same : (us : Table) (c : ℕ) → Relabelled new old us c → gains m r (label us) n c ≡ gains m r old n c
  gains_same us c h =
      let tests : lower m r.heights (label us) n c ≡ lower m r.heights old n c =
      λ i d. m.linked c d && (near (r.heights c) (r.heights d) && unseen us c h d i) in
      ap (λ o. not (is_some o) && (not (r.changing c) && is_some (lowest_beside m r.heights (label us) n c))) (not_yet new old us c h)
      ∙ ap (λ p. not (is_some (old c)) && (not (r.changing c) && is_some (first_below p m.columns))) tests

  gained : (c : ℕ) → gains m r old n c ≡ true → Some (suc n) ≡ new c
  gained c g = sym (cond-true (gains m r old n c) (Some (suc n)) (old c) g)

  not_gained : (c : ℕ) → gains m r old n c ≡ false → old c ≡ new c
  not_gained c g = sym (cond-false (gains m r old n c) (Some (suc n)) (old c) g)

  -- one turn of a round, at a column that gains a label and at one that does not
  pub turned : (us vs : Table) (c : ℕ) → Relabelled new old us c → c < length us → gains m r (label us) n c ≡ true → vs ≡ set us c (Some (n + 1)) → Relabelled new old vs (c + 1)
  turned us vs c h l g e =
      let P : Table → Type 0 = λ t. Relabelled new old t (c + 1) in
      subst P (sym e) (one_set new old us c (Some (n + 1)) h l (ap Some (add-one n) ∙ gained c (sym (gains_same us c h) ∙ g)))

  pub passed_by : (us vs : Table) (c : ℕ) → Relabelled new old us c → gains m r (label us) n c ≡ false → vs ≡ us → Relabelled new old vs (c + 1)
  passed_by us vs c h g e =
      let P : Table → Type 0 = λ t. Relabelled new old t (c + 1) in
      subst P (sym e) (one_kept new old us c h (not_gained c (sym (gains_same us c h) ∙ g)))

-- no column past the last is at the border
pub no_first_label : (m : Meaning) (changing : ℕ → Bool) → Lawful m → (e : ℕ) → m.columns ≤ e → first_label m changing e ≡ None
no_first_label m changing law e past_last = elim (cases_Bool (m.border e)) [
  | inl b ↦ absurd (omega (arith, law.at_border e b))
  | inr f ↦ cond-false (m.border e && not (changing e)) (Some 0) None (and_left (m.border e) (not (changing e)) f)
]

-- the tables of the search against the rounds
module _ (m : Meaning) (r : Relief) where
  pub started : Lawful m → (us : Table) → ((e : ℕ) → label us e ≡ first_label m r.changing e) → (e : ℕ) → label us e ≡ label (after m r 0) e
  started law us h e = h e ∙ elim (cases_lt e m.columns) [
    | inl l ↦ sym (at_start m r e l)
    | inr g ↦ no_first_label m r.changing law e g ∙ sym (past m r 0 e g)
  ]

  pub rounded : (n : ℕ) (ts us : Table) → ((e : ℕ) → label ts e ≡ label (after m r n) e)
      → Relabelled (next_label m r (label ts) n) (label ts) us m.columns → (e : ℕ) → label us e ≡ label (after m r (suc n)) e
  rounded n ts us was h e = h e ∙ elim (cases_lt e m.columns) [
    | inl l ↦ cond-true (ltb e m.columns) (next_label m r (label ts) n e) (label ts e) (lt-ltb e m.columns l)
        ∙ ap (λ (f : ℕ → Option ℕ). next_label m r f n e) (λ i d. was d i) ∙ sym (at_round m r n e l)
    | inr g ↦ cond-false (ltb e m.columns) (next_label m r (label ts) n e) (label ts e) (le-ltb e m.columns g) ∙ was e ∙ past m r n e g ∙ sym (past m r (suc n) e g)
  ]

  pub all_rounds : (us : Table) (n : ℕ) → n ≡ m.columns → ((e : ℕ) → label us e ≡ label (after m r n) e) → (e : ℕ) → label us e ≡ steps m r e
  unfolding steps
  all_rounds us n l h e = h e ∙ ap (λ k. label (after m r k) e) l

  -- a round that added nothing was the last that is needed
  pub ended_early : (ts us : Table) (n : ℕ) → n ≤ m.columns → ((e : ℕ) → label ts e ≡ label (after m r n) e) → ((e : ℕ) → label us e ≡ label (after m r (suc n)) e)
      → ((e : ℕ) → label us e ≡ label ts e) → (e : ℕ) → label us e ≡ steps m r e
  unfolding steps
  ended_early ts us n l was is same e =
      same e ∙ was e ∙ sym (ended m r n (λ c. sym (is c) ∙ same c ∙ was c) m.columns l e)
