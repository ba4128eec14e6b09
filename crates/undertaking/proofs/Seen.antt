-- What is read of a site after a tick, and after an action began. Assumes nothing.
use Rattle.std.proofs.Common.{◌≡◌, ℕ, ◌+◌, ◌<◌, ◌≢◌, length, sym, ap, ◌∙◌, subst, inl, inr, arith}
use Rattle.std.proofs.lemmas.List.{get_or_past, get_or-set_same, get_or-set_other, length-set, get_or-replicate, length-replicate}
use Rattle.std.proofs.lemmas.Bool.{cases_lt, cases_eq}
use Rattle.gate.proofs.Sums.{sum_change, sum_change_two}
use Rattle.gate.specs.Column.{fresh, facing}
use Rattle.gate.specs.Scene.{Columns, at, height_at, put, begin, sum_below}
use Rattle.gate.specs.declared.column.Column.{Column}
use Rattle.gate.specs.declared.column.Part.{Part}
use Rattle.gate.specs.declared.column.State.{State}
use Rattle.gate.specs.declared.column.State.TheVariants.{Busy}
use Rattle.ground.specs.Meaning.{Meaning}
use Rattle.undertaking.proofs.Plain.{opening}

pub at_opening : (m : Meaning) (c : ℕ) → at (opening m) c ≡ fresh
at_opening m c = elim (cases_lt c m.columns) [
  | inl l ↦ get_or-replicate m.columns c fresh fresh l
  | inr g ↦ get_or_past (opening m) c fresh (omega (arith, length-replicate m.columns fresh))
]

-- a column that is read as other than fresh is within
pub within : (xs : Columns) (c : ℕ) → (at xs c ≢ fresh) → c < length xs
within xs c e = elim (cases_lt c (length xs)) [ inl l ↦ l | inr g ↦ absurd (e (get_or_past xs c fresh g)) ]

-- ys is xs with column c in state t
pub record Put (xs ys : Columns) (c : ℕ) (t : State) : Type 0 where
  pub long : length ys ≡ length xs
  pub here : at ys c ≡ record { height = height_at xs c; state = t }
  pub else : (e : ℕ) → e ≢ c → at ys e ≡ at xs e

pub putting : (xs : Columns) (c : ℕ) (t : State) → c < length xs → Put xs (put xs c t) c t
putting xs c t l =
    record {
      long = length-set xs c (record { height = height_at xs c; state = t });
      here = get_or-set_same xs c (record { height = height_at xs c; state = t }) fresh l;
      else = λ e i. get_or-set_other xs c e (record { height = height_at xs c; state = t }) fresh i;
    }

-- ys is xs with the action of p begun
pub record Begun (xs ys : Columns) (c d : ℕ) (p : Part) (n : ℕ) : Type 0 where
  pub long : length ys ≡ length xs
  pub here : at ys c ≡ record { height = height_at xs c; state = Busy p n }
  pub there : at ys d ≡ record { height = height_at xs d; state = Busy (facing c p) n }
  pub else : (e : ℕ) → e ≢ c → e ≢ d → at ys e ≡ at xs e

pub beginning : (xs : Columns) (c d : ℕ) (p : Part) (n : ℕ) → c < length xs → d < length xs → c ≢ d → Begun xs (begin xs c d p n) c d p n
beginning xs c d p n lc ld ne =
    let one = putting xs c (Busy p n) lc in
    let two = putting (put xs c (Busy p n)) d (Busy (facing c p) n) (omega (arith, one.long)) in
    let same : at (put xs c (Busy p n)) d ≡ at xs d = one.else d (λ e. ne (sym e)) in
    record {
      long = two.long ∙ one.long;
      here = two.else c ne ∙ one.here;
      there = two.here ∙ ap (λ (x : Column). record { height = x.height; state = Busy (facing c p) n }) same;
      else = λ e i j. two.else e j ∙ one.else e i;
    }

-- what holds of the new columns and of all others holds of every column
pub put_all : {xs ys : Columns} {c : ℕ} {t : State} → Put xs ys c t → (P : ℕ → Column → Type 0)
    → P c (record { height = height_at xs c; state = t }) → ((e : ℕ) → e ≢ c → P e (at xs e)) → (e : ℕ) → P e (at ys e)
put_all {xs} {ys} {c} b P here else e = elim (cases_eq e c) [
  | inl i ↦ let Q : ℕ → Type 0 = λ e. P e (at ys e) in subst Q (sym i) (subst (P c) (sym b.here) here)
  | inr i ↦ subst (P e) (sym (b.else e i)) (else e i)
]

pub begun_all : {xs ys : Columns} {c d : ℕ} {p : Part} {n : ℕ} → Begun xs ys c d p n → (P : ℕ → Column → Type 0)
    → P c (record { height = height_at xs c; state = Busy p n }) → P d (record { height = height_at xs d; state = Busy (facing c p) n })
    → ((e : ℕ) → e ≢ c → e ≢ d → P e (at xs e)) → (e : ℕ) → P e (at ys e)
begun_all {xs} {ys} {c} {d} b P here there else e =
    let Q : ℕ → Type 0 = λ e. P e (at ys e) in
    elim (cases_eq e c) [
      | inl i ↦ subst Q (sym i) (subst (P c) (sym b.here) here)
      | inr i ↦ elim (cases_eq e d) [ inl j ↦ subst Q (sym j) (subst (P d) (sym b.there) there) | inr j ↦ subst (P e) (sym (b.else e i j)) (else e i j) ]
    ]

module _ (f : ℕ → Column → ℕ) (xs ys : Columns) (k : ℕ) where
  pub put_sum : (c : ℕ) (t : State) → Put xs ys c t → c < k
      → sum_below (λ e. f e (at ys e)) k + f c (at xs c) ≡ sum_below (λ e. f e (at xs e)) k + f c (record { height = height_at xs c; state = t })
  put_sum c t b l =
      sum_change (λ e. f e (at ys e)) (λ e. f e (at xs e)) k c l (λ e i. ap (f e) (b.else e i)) ∙ ap (λ x. sum_below (λ e. f e (at xs e)) k + f c x) b.here

  pub begin_sum : (c d : ℕ) (p : Part) (n : ℕ) → Begun xs ys c d p n → c < k → d < k → c ≢ d
      → sum_below (λ e. f e (at ys e)) k + (f c (at xs c) + f d (at xs d))
      ≡ sum_below (λ e. f e (at xs e)) k + (f c (record { height = height_at xs c; state = Busy p n }) + f d (record { height = height_at xs d; state = Busy (facing c p) n }))
  begin_sum c d p n b lc ld ne =
      omega (arith, sum_change_two (λ e. f e (at ys e)) (λ e. f e (at xs e)) k c d lc ld ne (λ e i j. ap (f e) (b.else e i j)), ap (f c) b.here, ap (f d) b.there)
