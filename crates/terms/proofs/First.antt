-- The first test that holds gives the first reason that holds, where each test decides its reason. Assumes nothing.
use Rattle.std.proofs.Common.{◌≡◌, ℕ, zero, suc, ◌+◌, ◌-◌, ◌<◌, Bool, true, false, cond, List, [], ◌∷◌, ◌++◌, is_some, Some, None, Ok, Err, Decides, Option, Result, sym, refl, ap, ◌∙◌, subst, inl, inr, arith}
use Rattle.terms.specs.declared.refusal.Refusal.{Refusal}
use Rattle.terms.specs.Refusals.{Answers, refusal_in, Told, Reason, Settles, first_of, from_on, or_else}

-- each test decides the reason at its place, and tells the same
abbrev pub Decide : List (Bool × Told) → List Reason → Type 0
Decide [] [] = Unit {0}
Decide [] (r ∷ rs) = ⊥
Decide (t ∷ ts) [] = ⊥
Decide (t ∷ ts) (r ∷ rs) = Decides t.0 r.holds × (t.1 ≡ r.tells) × Decide ts rs

later : (r : Reason) (rs : List Reason) (o : Option Told) → (r.holds → ⊥) → Settles rs o → Settles (r ∷ rs) o
later r rs None n s = (n, s)
later r rs (Some t) n s = inr (n, s)

one : (b : Bool) (t : Told) (r : Reason) (rs : List Reason) (o : Option Told) → Decides b r.holds → t ≡ r.tells → Settles rs o → Settles (r ∷ rs) (cond b (Some t) o)
one true t r rs o d e s = inl (d.0 refl, e)
one false t r rs o d e s = later r rs o (λ h. let z : true ≡ false = sym (d.1 h) in let w : ◌≡◌ {A = ℕ} 0 1 = cc in omega arith) s

pub first_settles : (ts : List (Bool × Told)) (rs : List Reason) → Decide ts rs → Settles rs (first_of ts)
first_settles [] [] d = tt
first_settles [] (r ∷ rs) d = absurd d
first_settles (t ∷ ts) [] d = absurd d
first_settles (t ∷ ts) (r ∷ rs) d = one t.0 t.1 r rs (first_of ts) d.0 d.1 (first_settles ts rs d.2)

pub decide_append : (ts us : List (Bool × Told)) (rs qs : List Reason) → Decide ts rs → Decide us qs → Decide (ts ++ us) (rs ++ qs)
decide_append [] us [] qs d e = e
decide_append [] us (r ∷ rs) qs d e = absurd d
decide_append (t ∷ ts) us [] qs d e = absurd d
decide_append (t ∷ ts) us (r ∷ rs) qs d e = (d.0, d.1, decide_append ts us rs qs d.2 e)

-- the first of two lists of tests, one after the other
pub first_append : (ts us : List (Bool × Told)) → first_of (ts ++ us) ≡ or_else (first_of ts) (first_of us)
first_append [] us = refl
first_append (t ∷ ts) us = go t.0 (first_append ts us)
  where
    go : (b : Bool) → first_of (ts ++ us) ≡ or_else (first_of ts) (first_of us) → cond b (Some t.1) (first_of (ts ++ us)) ≡ or_else (cond b (Some t.1) (first_of ts)) (first_of us)
    go true e = refl
    go false e = e

pub decide_on : (f : ℕ → List (Bool × Told)) (g : ℕ → List Reason) → ((i : ℕ) → Decide (f i) (g i)) → (i k : ℕ) → Decide (from_on f i k) (from_on g i k)
decide_on f g each i zero = tt
decide_on f g each i (suc k) = decide_append (f i) (from_on f (suc i) k) (g i) (from_on g (suc i) k) (each i) (decide_on f g each (suc i) k)

-- of n places, those from place i on
from_next : {X : Type 0} (f : ℕ → List X) (i n : ℕ) → i < n → from_on f i (n - i) ≡ f i ++ from_on f (i + 1) (n - (i + 1))
from_next f i n h =
    let e : n - i ≡ suc (n - (i + 1)) = omega arith in
    let s : suc i ≡ i + 1 = omega arith in
    ap (from_on f i) e ∙ ap (λ (j : ℕ). f i ++ from_on f j (n - (i + 1))) s

-- nothing is refused at place i: what is left decides
pub goes_on : (f : ℕ → List (Bool × Told)) (i n : ℕ) → i < n → first_of (f i) ≡ None → first_of (from_on f (i + 1) (n - (i + 1))) ≡ first_of (from_on f i (n - i))
goes_on f i n h e =
    sym (ap first_of (from_next f i n h) ∙ first_append (f i) (from_on f (i + 1) (n - (i + 1))) ∙ ap (λ (o : Option Told). or_else o (first_of (from_on f (i + 1) (n - (i + 1))))) e)

-- what is refused at place i is what is refused
pub stops_at : (f : ℕ → List (Bool × Told)) (i n : ℕ) (t : Told) → i < n → first_of (f i) ≡ Some t → first_of (from_on f i (n - i)) ≡ Some t
stops_at f i n t h e =
    ap first_of (from_next f i n h) ∙ first_append (f i) (from_on f (i + 1) (n - (i + 1))) ∙ ap (λ (o : Option Told). or_else o (first_of (from_on f (i + 1) (n - (i + 1))))) e

-- past the last place nothing is left
pub none_left : (f : ℕ → List (Bool × Told)) (i n : ℕ) → n - i ≡ 0 → first_of (from_on f i (n - i)) ≡ None
none_left f i n e = ap (λ (k : ℕ). first_of (from_on f i k)) e

-- what a call answers by a refusal's definition settles what that definition settles
pub answers_settle : {T : Type 0} (rs : List Reason) (o : Option Told) (P : T → Type 0) (r : Result T Refusal) → Answers o P r → Settles rs o → Settles rs (refusal_in r)
answers_settle rs o P (Ok v) a s = subst (Settles rs) a.0 s
answers_settle rs o P (Err f) a s = subst (Settles rs) a s

-- one reason alone
pub decides_some : {X : Type 0} (o : Option X) → Decides (is_some o) ((x : X) × (o ≡ Some x))
decides_some None = (λ e. let w : ◌≡◌ {A = ℕ} 0 1 = cc in absurd (omega arith), λ p. let q = p.1 in let w : ◌≡◌ {A = ℕ} 0 1 = cc in absurd (omega arith))
decides_some (Some x) = (λ e. (x, refl), λ p. refl)
