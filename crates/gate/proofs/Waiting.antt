-- Ticks until nothing runs: how many; and where nothing runs after a tick, a tick more alters nothing. Assumes nothing.
use Rattle.std.proofs.Common.{◌≡◌, ℕ, zero, suc, ◌+◌, ◌-◌, ◌<◌, ◌≤◌, Bool, true, false, cond, ltb, List, [], ◌∷◌, length, get_or, Some, None, Option, sym, refl, ap, ◌∙◌, subst, inl, inr, arith}
use Rattle.std.proofs.lemmas.List.FromFn.{get_or-map-range_with_len, length-map-range_with_len}
use Rattle.std.proofs.lemmas.Bool.{both_ways, cases_lt, cond-true, cond-false, false≢true, lt-ltb, le-ltb, true≢false}
use Rattle.ground.specs.Meaning.{Meaning}
use Rattle.gate.specs.declared.call.Call.TheVariants.{Tick}
use Rattle.gate.specs.declared.column.State.{State}
use Rattle.gate.specs.declared.column.State.TheVariants.{Free, Standing, Busy}
use Rattle.gate.specs.Column.{column, next, rest, runs, stays, ticked}
use Rattle.gate.specs.Gate.{step}
use Rattle.gate.specs.Recall.{any_runs}
use Rattle.gate.specs.Scene.{Columns, Scene, mark_of, renewed_marks, state_at, tick_all}
use Rattle.gate.specs.Time.{Quiet, Settles, after_ticks, left, longest, settled}
use Rattle.gate.proofs.Below.{any_decides}
use Rattle.gate.proofs.Marks.{Renewed, all_renewed}

-- ---- how many ticks are left

left_runs : (z : State) → 0 < left z → runs z ≡ true
left_runs Free l = absurd (omega arith)
left_runs (Standing b) l = absurd (omega arith)
left_runs (Busy p n) l = refl

runs_left : (z : State) → runs z ≡ true → 0 < left z
runs_left Free e = absurd (false≢true e)
runs_left (Standing b) e = absurd (false≢true e)
runs_left (Busy p n) e = omega arith

none_left : (z : State) → left z ≡ 0 → runs z ≡ false
none_left Free l = refl
none_left (Standing b) l = refl
none_left (Busy p n) l = absurd (omega arith)

rest_left : (o : Option Bool) → left (rest o) ≡ 0
rest_left None = refl
rest_left (Some b) = refl

next_left : (z : State) → left (next z) ≡ left z - 1
next_left Free = refl
next_left (Standing b) = refl
next_left (Busy p zero) = omega (arith, rest_left (stays p))
next_left (Busy p (suc zero)) = omega (arith, rest_left (stays p))
next_left (Busy p (suc (suc n))) = omega arith

pub longest_is : (xs : Columns) (c : ℕ) → left (state_at xs c) ≤ longest xs
longest_is [] c = omega arith
longest_is (x ∷ xs) zero = omega arith
longest_is (x ∷ xs) (suc c) = omega (arith, longest_is xs c)

longest_at : (xs : Columns) → 0 < longest xs → (c : ℕ) × (c < length xs) × (0 < left (state_at xs c))
longest_at [] l = absurd (omega arith)
longest_at (x ∷ xs) l =
    elim (cases_lt 0 (left x.state)) [
      | inl g ↦ (0, omega arith, g)
      | inr g ↦ let w = longest_at xs (omega arith) in (suc w.0, omega (arith, w.1), w.2)
    ]

longest_tick : (xs : Columns) → longest (tick_all xs) ≡ longest xs - 1
longest_tick [] = refl
longest_tick (x ∷ xs) = omega (arith, longest_tick xs, next_left x.state)

longest_ticks : (k : ℕ) (v : Scene) → longest (after_ticks k v).columns ≡ longest v.columns - k
longest_ticks zero v = omega arith
longest_ticks (suc k) v = omega (arith, longest_ticks k (step v Tick), longest_tick v.columns)

none_longest : (xs : Columns) → longest xs ≡ 0 → Quiet xs
none_longest xs e c = none_left (state_at xs c) (omega (arith, longest_is xs c))

pub settles_so : (v : Scene) → Settles v
settles_so v =
    record {
      quiet = none_longest (settled v).columns (omega (arith, longest_ticks (longest v.columns) v));
      no_sooner = λ n l q.
          let w = longest_at (after_ticks n v).columns (omega (arith, longest_ticks n v)) in
          both_ways (runs (state_at (after_ticks n v).columns w.0)) (q w.0) (left_runs (state_at (after_ticks n v).columns w.0) w.2);
    }

-- ---- whether something runs, of as many columns as the ground has

module _ (m : Meaning) (xs : Columns) where
  pub busy_longest : any_runs m xs ≡ true → 0 < longest xs
  busy_longest e =
      let w = (any_decides (λ c. runs (state_at xs c)) m.columns).0 e in
      omega (arith, longest_is xs w.0, runs_left (state_at xs w.0) w.2)

  pub idle_longest : length xs ≡ m.columns → any_runs m xs ≡ false → longest xs ≡ 0
  idle_longest size e =
      elim (cases_lt 0 (longest xs)) [
        | inl l ↦
            let w = longest_at xs l in
            let k : w.0 < m.columns = omega (arith, size, w.1) in
            let some = (any_decides (λ c. runs (state_at xs c)) m.columns).1 (w.0, k, left_runs (state_at xs w.0) w.2) in
            absurd (both_ways (any_runs m xs) e some)
        | inr g ↦ omega arith
      ]

-- ---- one turn of each loop

pub tick_on : (v w : Scene) (until i : ℕ) → i < until → w ≡ step v Tick → after_ticks (until - (i + 1)) w ≡ after_ticks (until - i) v
tick_on v w until i l e =
    let n : until - i ≡ suc (until - (i + 1)) = omega arith in
    ap (after_ticks (until - (i + 1))) e ∙ sym (ap (λ (k : ℕ). after_ticks k v) n)

module _ (v w : Scene) (e : w ≡ step v Tick) (p : 0 < longest v.columns) where
  pub settle_on : settled w ≡ settled v
  settle_on =
      let n : longest v.columns ≡ suc (longest (step v Tick).columns) = omega (arith, longest_tick v.columns) in
      ap settled e ∙ sym (ap (λ (k : ℕ). after_ticks k v) n)

  pub settle_less : longest w.columns < longest v.columns
  settle_less = omega (arith, longest_tick v.columns, ap (λ (u : Scene). longest u.columns) e)

-- ---- where nothing runs

idle_column : (h : ℕ) (z : State) → runs z ≡ false → ticked (column h z) ≡ column h z
idle_column h Free e = refl
idle_column h (Standing b) e = refl
idle_column h (Busy p n) e = absurd (true≢false e)

idle_columns : (xs : Columns) → Quiet xs → tick_all xs ≡ xs
idle_columns [] q = refl
idle_columns (x ∷ xs) q = λ i. idle_column x.height x.state (q 0) i ∷ idle_columns xs (λ c. q (suc c)) i

-- marks that were renewed are the same when they are renewed again
renewed_twice : (xs : Columns) (n : ℕ) (old : List ℕ) → n ≤ 256 → renewed_marks n xs (renewed_marks n xs old) ≡ renewed_marks n xs old
renewed_twice xs n old few = sym (all_renewed xs ms n ms (length-map-range_with_len g 0 256) again)
  where
    g : ℕ → ℕ
    g c = cond (ltb c n) (mark_of xs c) (get_or old c 0)

    ms : List ℕ
    ms = renewed_marks n xs old

    again : Renewed xs ms n ms
    again e = elim (cases_lt e n) [
      | inl l ↦ get_or-map-range_with_len g 0 256 e e 0 (omega arith) (omega arith) ∙ cond-true (ltb e n) (mark_of xs e) (get_or old e 0) (lt-ltb e n l)
          ∙ sym (cond-true (ltb e n) (mark_of xs e) (get_or ms e 0) (lt-ltb e n l))
      | inr m ↦ sym (cond-false (ltb e n) (mark_of xs e) (get_or ms e 0) (le-ltb e n m))
    ]

-- after a tick a quiet site stays as it is
idle_tick : (u : Scene) → u.meaning.columns ≤ 256 → Quiet (step u Tick).columns → step (step u Tick) Tick ≡ step u Tick
idle_tick u few q =
    let xs : Columns = tick_all u.columns in
    let e : tick_all xs ≡ xs = idle_columns xs q in
    λ i. record {
      meaning = u.meaning;
      settings = u.settings;
      columns = e i;
      marks = (ap (λ (ys : Columns). renewed_marks u.meaning.columns ys (renewed_marks u.meaning.columns xs u.marks)) e
          ∙ renewed_twice xs u.meaning.columns u.marks few) i;
    }

idle_ticks : (n : ℕ) (v : Scene) → step v Tick ≡ v → after_ticks n v ≡ v
idle_ticks zero v e = refl
idle_ticks (suc n) v e = ap (after_ticks n) e ∙ idle_ticks n v e

-- where nothing runs after a tick, so many more alter nothing
pub idle_on : (n : ℕ) (v w : Scene) → w ≡ step v Tick → v.meaning.columns ≤ 256 → longest w.columns ≡ 0 → after_ticks n w ≡ w
idle_on n v w e few none =
    let q : Quiet (step v Tick).columns = subst (λ (u : Scene). Quiet u.columns) e (none_longest w.columns none) in
    idle_ticks n w (ap (λ (u : Scene). step u Tick) e ∙ idle_tick v few q ∙ sym e)
