-- Searches need not look at first elements of which none passes the test, and none of those that ended before the last start does.
-- Assumes nothing.
use Rattle.std.proofs.Common.{◌≡◌, ℕ, zero, suc, ◌+◌, ◌-◌, ◌<◌, ◌≤◌, max, min, Bool, true, false, cond, not, ◌&&◌, ◌||◌, ltb, leb, ◌⊎◌, List, [], ◌∷◌, length, get_or, drop, count_by, Some, None, Option, sym, refl, ap, ap₂, ◌∙◌, subst, inl, inr, arith, length-drop, get_or-drop}
use Rattle.std.proofs.lemmas.List.Sums.{sum_by-append}
use Rattle.std.proofs.lemmas.Bool.{both_ways, cases_Bool, cases_lt, le-ltb, leb-false, leb-true, lt-leb, ltb-false, ne_eqb}
use Rattle.ground.specs.Meaning.{Meaning}
use Rattle.plan.specs.Plan.{Action, carried, end_column, is_entry, is_leave, line, no_action, runs, shares, some_of, starts}
use Rattle.plan.proofs.Counts.{count_by_cons, unit}
use Rattle.plan.proofs.Searches.{decides_runs}
use Rattle.judge.specs.Finding.{Lowest, Passed, Settled, find, left_between}
use Rattle.judge.specs.Judging.{collide, crowd, falls, goes_on_from, latest_start, left_behind}
use Rattle.judge.proofs.Reasoned.{decides_behind}

-- none of the first n elements passes a test
abbrev pub Unheard : {X : Type 0} → (X → Bool) → X → ℕ → List X → Type 0
Unheard p d n xs = (i : ℕ) → i < n → p (get_or xs i d) ≡ false

module _ {X : Type 0} (p : X → Bool) (d : X) where
  pub find_recent : (n : ℕ) (xs : List X) → Unheard p d n xs → find p (drop n xs) ≡ find p xs
  find_recent zero xs h = refl
  find_recent (suc n) [] h = refl
  find_recent (suc n) (x ∷ xs) h =
      find_recent n xs (λ i l. h (suc i) (omega arith)) ∙ sym (ap (λ (b : Bool). cond b (Some x) (find p xs)) (h 0 (omega arith)))

  pub find_same : (q : X → Bool) (d : X) (xs : List X) → ((i : ℕ) → i < length xs → p (get_or xs i d) ≡ q (get_or xs i d)) → find p xs ≡ find q xs
  find_same q e [] h = refl
  find_same q e (x ∷ xs) h = ap₂ (λ (b : Bool) (o : Option X). cond b (Some x) o) (h 0 (omega arith)) (find_same q e xs (λ i l. h (suc i) (omega arith)))

  pub some_recent : (n : ℕ) (xs : List X) → Unheard p d n xs → some_of p (drop n xs) ≡ some_of p xs
  some_recent zero xs h = refl
  some_recent (suc n) [] h = refl
  some_recent (suc n) (x ∷ xs) h =
      some_recent n xs (λ i l. h (suc i) (omega arith)) ∙ sym (ap (λ (b : Bool). b || some_of p xs) (h 0 (omega arith)))

  pub count_recent : (n : ℕ) (xs : List X) → Unheard p d n xs → count_by p (drop n xs) ≡ count_by p xs
  count_recent zero xs h = refl
  count_recent (suc n) [] h = refl
  count_recent (suc n) (x ∷ xs) h =
      let ih = count_recent n xs (λ i l. h (suc i) (omega arith)) in
      omega (arith, count_by_cons p x xs, ap unit (h 0 (omega arith)))

-- by a test that says the same of every action
pub lowest_recent : (p q : Action → Bool) (n : ℕ) (xs : List Action) → n ≤ length xs → ((b : Action) → p b ≡ q b) → Unheard q no_action n xs
    → (o : Option ℕ) → Lowest p (drop n xs) o → Lowest q xs o
lowest_recent p q n xs within same none = go
  where
    at : (j : ℕ) → line (drop n xs) j ≡ line xs (n + j)
    at j = get_or-drop n xs j no_action

    later : (i : ℕ) → i < length xs → q (line xs i) ≡ true → (j : ℕ) × (j < length (drop n xs)) × (line (drop n xs) j ≡ line xs i) × (p (line (drop n xs) j) ≡ true)
    later i l t = pick (cases_lt i n)
      where
        pick : (i < n) ⊎ (n ≤ i) → (j : ℕ) × (j < length (drop n xs)) × (line (drop n xs) j ≡ line xs i) × (p (line (drop n xs) j) ≡ true)
        pick (inl b) = absurd (both_ways (q (line xs i)) (none i b) t)
        pick (inr g) =
            let back : n + (i - n) ≡ i = omega arith in
            let e : line (drop n xs) (i - n) ≡ line xs i = at (i - n) ∙ ap (line xs) back in
            (i - n, omega (arith, length-drop n xs), e, same (line (drop n xs) (i - n)) ∙ ap q e ∙ t)

    go : (o : Option ℕ) → Lowest p (drop n xs) o → Lowest q xs o
    go None low = λ i l t. let (j, k, e, y) = later i l t in low j k y
    go (Some c) low =
        let (j, k, y, e) = low.0 in (
          (n + j, omega (arith, length-drop n xs), ap q (sym (at j)) ∙ sym (same (line (drop n xs) j)) ∙ y, ap end_column (sym (at j)) ∙ e),
          λ i l t. let (i', k', e', y') = later i l t in subst (λ (b : Action). c ≤ end_column b) e' (low.1 i' k' y'),
        )

fails_later : (x y : Bool) → y ≡ false → (x && y) ≡ false
fails_later true y e = e
fails_later false y e = refl

fails_first : (x y : Bool) → x ≡ false → (x && y) ≡ false
fails_first x y e = ap (λ (b : Bool). b && y) e

module _ (plan : List Action) (n : ℕ) (past : Passed plan (latest_start plan) n) where
  -- an action that starts no earlier than the last start
  module _ (a : Action) (late : falls plan a ≡ false) where
    pub none_collides : Unheard (λ b. collide b a) no_action n plan
    none_collides i l =
        let e = past.ended i l in
        let s = ltb-false a.start (latest_start plan) late in
        fails_first _ (shares (line plan i) a) (le-ltb (max (line plan i).start a.start) (min (line plan i).end a.end) (omega arith))

    pub none_goes_on : Unheard (goes_on_from a) no_action n plan
    none_goes_on i l =
        let e = past.ended i l in
        let s = ltb-false a.start (latest_start plan) late in
        fails_first _ _ (fails_later (not (is_leave (line plan i).work)) _ (fails_first _ _ (ne_eqb (line plan i).end a.start (λ (x : (line plan i).end ≡ a.start). omega arith))))

    pub none_runs : Unheard (runs a.start) no_action n plan
    none_runs i l =
        let e = past.ended i l in
        let s = ltb-false a.start (latest_start plan) late in
        fails_later (leb (line plan i).start a.start) _ (le-ltb a.start (line plan i).end (omega arith))

    pub crowd_recent : a.start < a.end → crowd plan a ≡ count_by (runs a.start) (drop n plan) + 1
    crowd_recent o =
        let here : runs a.start a ≡ true = (decides_runs a.start a).1 (record { begun = omega arith; before_end = o }) in
        omega (arith, sum_by-append (λ (b : Action). cond (runs a.start b) 1 0) plan (a ∷ []), count_by_cons (runs a.start) a [], ap unit here, count_recent (runs a.start) no_action n plan none_runs)

  -- at the last start or later
  pub carried_recent : (t c : ℕ) → latest_start plan ≤ t → carried (drop n plan) t c ≡ carried plan t c
  carried_recent t c late =
      some_recent (starts t c) no_action n plan
      (λ i l. let e = past.ended i l in let s = past.ordered i l in
      fails_later (not (is_entry (line plan i).work)) _ (fails_first _ _ (ne_eqb (line plan i).start t (λ (x : (line plan i).start ≡ t). omega arith))))

  -- those that ended before the last start are not left behind
  settled_on : (m : Meaning) → Settled m plan → (i : ℕ) → i < length plan → (line plan i).end < latest_start plan → left_behind plan (line plan i) ≡ false
  settled_on m so i l e = go (cases_Bool (left_behind plan (line plan i)))
    where
      go : (left_behind plan (line plan i) ≡ true) ⊎ (left_behind plan (line plan i) ≡ false) → left_behind plan (line plan i) ≡ false
      go (inl y) = let w = (decides_behind plan (line plan i)).0 y in absurd (w.1 (so.carried_on i l w.0 e))
      go (inr f) = f

  pub behind_recent : (m : Meaning) → Settled m plan → find (λ b. leb (latest_start plan) b.end && left_behind (drop n plan) b) (drop n plan) ≡ find (left_behind plan) plan
  behind_recent m so =
      find_same _ no_action (left_behind plan) no_action (drop n plan) (λ j l. same j l (cases_Bool (leb (latest_start plan) (line (drop n plan) j).end)))
      ∙ find_recent (left_behind plan) no_action n plan (λ i l. settled_on m so i (omega (arith, past.within)) (past.ended i l))
    where
      test : Bool → Bool → Action → Bool
      test x w b = x && (not (is_leave b.work) && not w)

      same : (j : ℕ) → j < length (drop n plan) → (leb (latest_start plan) (line (drop n plan) j).end ≡ true) ⊎ (leb (latest_start plan) (line (drop n plan) j).end ≡ false)
          → (leb (latest_start plan) (line (drop n plan) j).end && left_behind (drop n plan) (line (drop n plan) j)) ≡ left_behind plan (line (drop n plan) j)
      same j l (inl y) =
          let b = line (drop n plan) j in
          ap (λ (x : Bool). test x (carried (drop n plan) b.end (end_column b)) b) y
          ∙ ap (λ (w : Bool). test true w b) (carried_recent b.end (end_column b) (leb-true _ _ y))
      same j l (inr f) =
          let b = line (drop n plan) j in
          let at : b ≡ line plan (n + j) = get_or-drop n plan j no_action in
          ap (λ (x : Bool). test x (carried (drop n plan) b.end (end_column b)) b) f
          ∙ sym (ap (left_behind plan) at ∙ settled_on m so (n + j) (omega (arith, length-drop n plan)) (subst (λ (x : Action). x.end < latest_start plan) at (leb-false _ _ f)))

  left_recent : (t : ℕ) (b : Action) → left_between (drop n plan) (latest_start plan) t b ≡ left_between plan (latest_start plan) t b
  left_recent t b = go (cases_Bool (leb (latest_start plan) b.end))
    where
      with : Bool → Bool → Bool
      with x w = not (is_leave b.work) && (x && (ltb b.end t && not w))

      go : (leb (latest_start plan) b.end ≡ true) ⊎ (leb (latest_start plan) b.end ≡ false) → left_between (drop n plan) (latest_start plan) t b ≡ left_between plan (latest_start plan) t b
      go (inl y) = ap (with (leb (latest_start plan) b.end)) (carried_recent b.end (end_column b) (leb-true _ _ y))
      go (inr f) = ap (λ (x : Bool). with x (carried (drop n plan) b.end (end_column b))) f ∙ sym (ap (λ (x : Bool). with x (carried plan b.end (end_column b))) f)

  pub lowest_left : (t : ℕ) (o : Option ℕ) → Lowest (left_between (drop n plan) (latest_start plan) t) (drop n plan) o → Lowest (left_between plan (latest_start plan) t) plan o
  lowest_left t o low =
      lowest_recent _ (left_between plan (latest_start plan) t) n plan past.within (left_recent t)
      (λ i l. let e = past.ended i l in fails_later (not (is_leave (line plan i).work)) _ (fails_first _ _ (lt-leb (latest_start plan) (line plan i).end e))) o low
