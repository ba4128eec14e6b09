-- The first test that holds, and what each test that fails tells. Assumes nothing.
use Rattle.std.proofs.Common.{◌≡◌, ℕ, zero, suc, ◌<◌, Bool, true, false, cond, not, ltb, List, [], ◌∷◌, is_some, Some, None, Option, sym, refl, ap, ◌∙◌, inl, inr, arith}
use Rattle.std.specs.List.{AllByRecursion}
use Rattle.std.proofs.lemmas.Bool.{false≢true, true≢false, not-false, not_from_true, ltb-true, lt-ltb, or_parts, and_from, cond-false, cases_eq}
use Rattle.gate.specs.Column.{held, stands, robot, carries}
use Rattle.gate.specs.Gate.{off, stranded_by, lowest_stranded}
use Rattle.gate.specs.Scene.{any_below, Columns, state_at}
use Rattle.gate.specs.declared.column.State.{State}
use Rattle.gate.specs.declared.column.State.TheVariants.{Free, Standing, Busy}
use Rattle.ground.specs.Meaning.{Meaning, Lawful}
use Rattle.terms.specs.Refusals.{Told, first_of}
use Rattle.undertaking.proofs.Plain.{tried}
use Rattle.ways.proofs.Firsts.{none≢some, first_there}
use Rattle.ways.proofs.Exactness.{ways_exact}
use Rattle.ways.specs.Table.{steps}
use Rattle.ways.specs.Way.{Way}

abbrev pub Fail : List (Bool × Told) → Type 0
Fail ts = AllByRecursion (λ (t : Bool × Told). t.0 ≡ false) ts

cond_none : (b : Bool) (r : Told) (o : Option Told) → cond b (Some r) o ≡ None → (b ≡ false) × (o ≡ None)
cond_none true r o e = absurd (none≢some (sym e))
cond_none false r o e = (refl, e)

-- none applies exactly when every test fails
pub all_fail : (ts : List (Bool × Told)) → first_of ts ≡ None → Fail ts
all_fail [] e = tt
all_fail (t ∷ ts) e = let p = cond_none t.0 t.1 (first_of ts) e in (p.0, all_fail ts p.1)

pub none_applies : (ts : List (Bool × Told)) → Fail ts → first_of ts ≡ None
none_applies [] h = refl
none_applies (t ∷ ts) h = cond-false t.0 (Some t.1) (first_of ts) h.0 ∙ none_applies ts h.1

pub on_ground : (m : Meaning) (c : ℕ) → off m c ≡ false → c < m.columns
on_ground m c e = ltb-true c m.columns (not-false (ltb c m.columns) e)

pub not_off : (m : Meaning) (c : ℕ) → c < m.columns → off m c ≡ false
not_off m c l = not_from_true (ltb c m.columns) (lt-ltb c m.columns l)

pub is_standing : (t : State) → stands t ≡ true → t ≡ Standing (carries t)
is_standing Free e = absurd (false≢true e)
is_standing (Standing b) e = refl
is_standing (Busy p n) e = absurd (false≢true e)

pub is_free : (t : State) → held t ≡ false → t ≡ Free
is_free Free e = refl
is_free (Standing b) e = absurd (true≢false e)
is_free (Busy p n) e = absurd (true≢false e)

pub none_below : (p : ℕ → Bool) (n : ℕ) → any_below p n ≡ false → (k : ℕ) → k < n → p k ≡ false
none_below p zero e k l = absurd (omega arith)
none_below p (suc n) e k l =
    let b = or_parts (p n) (any_below p n) e in
    let ih = none_below p n b.1 k in
    elim (cases_eq k n) [ inl i ↦ ap p i ∙ b.0 | inr i ↦ ih (omega arith) ]

-- with d changing too every robot has a way home
pub not_stranded : (m : Meaning) → Lawful m → (xs : Columns) (d : ℕ) → is_some (lowest_stranded m xs (tried xs d)) ≡ false
    → (e : ℕ) → e < m.columns → robot (state_at xs e) ≡ true → (n : ℕ) × Way m (tried xs d) e n
not_stranded m law xs d t e l r = go (steps m (tried xs d) e) refl
  where
    go : (o : Option ℕ) → steps m (tried xs d) e ≡ o → (n : ℕ) × Way m (tried xs d) e n
    go (Some n) i = (n, (ways_exact m (tried xs d) law).sound e n i)
    go None i =
        let f = first_there (stranded_by xs (steps m (tried xs d))) m.columns e l (and_from (robot (state_at xs e)) (not (is_some (steps m (tried xs d) e))) r (ap (λ o. not (is_some o)) i)) in
        absurd (false≢true (sym t ∙ ap is_some f.1))
