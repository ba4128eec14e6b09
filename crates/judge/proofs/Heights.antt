-- The height of a column, by what the first actions delivered and picked up and by the others. Assumes nothing.
use Rattle.std.proofs.Common.{◌≡◌, ℕ, ◌+◌, ◌-◌, ◌<◌, ◌≤◌, Bool, true, false, cond, ◌&&◌, eqb, leb, ◌⊎◌, List, [], ◌∷◌, ◌++◌, length, get_or, take, drop, replicate, count_by, sym, refl, ap, ◌∙◌, subst, inl, inr, arith}
use Rattle.std.proofs.lemmas.Bool.{cases_Bool, cases_eq, cases_lt, eq-eqb, le-leb, ne_eqb}
use Rattle.std.proofs.lemmas.List.{length-replicate, length-set, get_or-replicate, get_or-set_other, get_or-set_same, length-take, take-append-le, get_or_past}
use Rattle.std.proofs.lemmas.List.Sums.{count_by-le-length, count_by_more_no, count_by_more_yes, sum_by-take-drop}
use Rattle.plan.specs.Plan.{Action, delivers, height_at, is_deliver, is_pick_up, line, no_action, picks}
use Rattle.judge.specs.Finding.{Tally, raised}

-- a kind of test: by a kind of work, of an action's other column, by its end
abbrev pub Kind : (Action → Bool) → (ℕ → ℕ → Action → Bool) → Type 0
Kind k p = (u c : ℕ) (a : Action) → p u c a ≡ (k a && (eqb a.to c && leb a.end u))

module _ (k : Action → Bool) (p : ℕ → ℕ → Action → Bool) (kind : Kind k p) (plan : List Action) (t n : ℕ) (counts : List ℕ) where
  pub tally_none : counts ≡ replicate 256 0 → n ≡ 0 → Tally p plan t n counts
  tally_none e z =
      record {
        wide = ap length e ∙ length-replicate {A = ℕ} 256 0;
        counted = λ c u l late. ap (λ (m : ℕ). count_by (p u c) (take m plan)) z ∙ sym (ap (λ (xs : List ℕ). get_or xs c 0) e ∙ get_or-replicate 256 c 0 0 l);
      }

  pub tally_push : (a : Action) (v : ℕ) → n ≤ length plan → t ≤ v → Tally p plan t n counts → Tally p (plan ++ (a ∷ [])) v n counts
  tally_push a v within late so =
      record {
        wide = so.wide;
        counted = λ c u l h. ap (λ (xs : List Action). count_by (p u c) xs) (take-append-le n plan (a ∷ []) within) ∙ so.counted c u l (omega arith);
      }

  pub tally_small : n ≤ 1500 → Tally p plan t n counts → (c : ℕ) → get_or counts c 0 < 65535
  tally_small few so c = go (cases_lt c 256)
    where
      go : (c < 256) ⊎ (256 ≤ c) → get_or counts c 0 < 65535
      go (inl l) = omega (arith, so.counted c t l (omega arith), count_by-le-length (p t c) (take n plan), length-take n plan)
      go (inr g) = omega (arith, get_or_past counts c 0 (omega (arith, so.wide)))

  -- one action more, which ended before
  module _ (within : n < length plan) (ended : (line plan n).end < t) (so : Tally p plan t n counts) where
    abbrev a : Action
    a = line plan n

    yes : k a ≡ true → Tally p plan t (n + 1) (raised counts a.to)
    yes y = record { wide = length-set counts a.to (get_or counts a.to 0 + 1) ∙ so.wide; counted = λ c u l h. go c u l h (cases_eq a.to c) }
      where
        go : (c u : ℕ) → c < 256 → t ≤ u → (a.to ≡ c) ⊎ (a.to ≡ c → ⊥) → count_by (p u c) (take (n + 1) plan) ≡ get_or (raised counts a.to) c 0
        go c u l h (inl e) =
            let done : leb a.end u ≡ true = le-leb a.end u (omega arith) in
            let here : p u c a ≡ true = kind u c a ∙ ap (λ (b : Bool). b && (eqb a.to c && leb a.end u)) y ∙ ap (λ (b : Bool). b && leb a.end u) (eq-eqb a.to c e) ∙ done in
            let at : get_or (raised counts a.to) c 0 ≡ get_or counts c 0 + 1 =
            ap (λ (d : ℕ). get_or (raised counts d) c 0) e ∙ get_or-set_same counts c (get_or counts c 0 + 1) 0 (omega (arith, so.wide)) in
            omega (arith, count_by_more_yes (p u c) plan n no_action within here, so.counted c u l h, at)
        go c u l h (inr o) =
            let here : p u c a ≡ false = kind u c a ∙ ap (λ (b : Bool). b && (eqb a.to c && leb a.end u)) y ∙ ap (λ (b : Bool). b && leb a.end u) (ne_eqb a.to c o) in
            omega (arith, count_by_more_no (p u c) plan n no_action within here, so.counted c u l h, get_or-set_other counts a.to c (get_or counts a.to 0 + 1) 0 (λ e. o (sym e)))

    no : k a ≡ false → Tally p plan t (n + 1) counts
    no f = record { wide = so.wide; counted = counted }
      where
        counted : (c u : ℕ) → c < 256 → t ≤ u → count_by (p u c) (take (n + 1) plan) ≡ get_or counts c 0
        counted c u l h =
            let here : p u c a ≡ false = kind u c a ∙ ap (λ (b : Bool). b && (eqb a.to c && leb a.end u)) f in
            omega (arith, count_by_more_no (p u c) plan n no_action within here, so.counted c u l h)

    tally_more : Tally p plan t (n + 1) (cond (k a) (raised counts a.to) counts)
    tally_more = go (cases_Bool (k a))
      where
        go : (k a ≡ true) ⊎ (k a ≡ false) → Tally p plan t (n + 1) (cond (k a) (raised counts a.to) counts)
        go (inl y) = subst (λ (b : Bool). Tally p plan t (n + 1) (cond b (raised counts a.to) counts)) (sym y) (yes y)
        go (inr f) = subst (λ (b : Bool). Tally p plan t (n + 1) (cond b (raised counts a.to) counts)) (sym f) (no f)

  -- as the code has them
  pub tally_next : n < length plan → (b : Action) → line plan n ≡ b → b.end < t → Tally p plan t n counts
      → {m : ℕ} {more : List ℕ} → m ≡ n + 1 → more ≡ cond (k b) (raised counts b.to) counts → Tally p plan t m more
  tally_next within b is ended so {m} {more} one e =
      subst (λ (j : ℕ). Tally p plan t j more) (sym one)
      (subst (Tally p plan t (n + 1)) (sym e)
      (subst (λ (x : Action). Tally p plan t (n + 1) (cond (k x) (raised counts x.to) counts)) is
      (tally_more within (subst (λ (x : Action). x.end < t) (sym is) ended) so)))

-- the two kinds
pub delivering : Kind (λ a. is_deliver a.work) delivers
delivering u c a = refl

pub picking : Kind (λ a. is_pick_up a.work) picks
picking u c a = refl

pub height_tallied : (plan : List Action) (t n c u : ℕ) (delivered picked : List ℕ) → c < 256 → t ≤ u → Tally delivers plan t n delivered → Tally picks plan t n picked
    → height_at plan u c ≡ (get_or delivered c 0 + count_by (delivers u c) (drop n plan)) - (get_or picked c 0 + count_by (picks u c) (drop n plan))
height_tallied plan t n c u delivered picked l late d p =
    omega (arith, d.counted c u l late, p.counted c u l late, sum_by-take-drop (λ (a : Action). cond (delivers u c a) 1 0) plan n, sum_by-take-drop (λ (a : Action). cond (picks u c a) 1 0) plan n)
