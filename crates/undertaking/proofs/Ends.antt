-- Every site comes to rest: after as many ticks as there are ticks left, and one. Assumes nothing.
use Rattle.std.proofs.Common.{◌≡◌, ℕ, zero, suc, ◌≤◌, Bool, true, false, ◌⊎◌, length, Some, None, Option, refl, ap, ◌∙◌, inl, inr, arith}
use Rattle.std.proofs.lemmas.List.{get_or_past}
use Rattle.std.proofs.lemmas.Bool.{both_ways, cases_lt, cases_Bool}
use Rattle.std.proofs.lemmas.Bool.Decides.{Decides-below_or}
use Rattle.gate.proofs.Sums.{sum_has}
use Rattle.gate.specs.Column.{fresh, stays, runs, rest, next}
use Rattle.gate.specs.Scene.{any_below, Columns, state_at, tick_all, sum_below}
use Rattle.gate.specs.declared.column.Column.{Column}
use Rattle.gate.specs.declared.column.State.{State}
use Rattle.gate.specs.declared.column.State.TheVariants.{Free, Standing, Busy}
use Rattle.undertaking.proofs.Plain.{after_ticks, Rested}
use Rattle.gate.specs.Time.{Quiet}
use Rattle.gate.proofs.Ticked.{at_tick}
use Rattle.undertaking.proofs.Asked.{none_below}

abbrev left : State → ℕ
left Free = 0
left (Standing b) = 0
left (Busy p n) = n

left_rest : (o : Option Bool) (n : ℕ) → left (rest o) ≤ n
left_rest None n = omega arith
left_rest (Some b) n = omega arith

less : (t : State) (n : ℕ) → left t ≤ suc n → left (next t) ≤ n
less Free n h = omega arith
less (Standing b) n h = omega arith
less (Busy p zero) n h = left_rest (stays p) n
less (Busy p (suc zero)) n h = left_rest (stays p) n
less (Busy p (suc (suc k))) n h = omega arith

runs_rest : (o : Option Bool) → runs (rest o) ≡ false
runs_rest None = refl
runs_rest (Some b) = refl

stops : (t : State) → left t ≤ 0 → runs (next t) ≡ false
stops Free h = refl
stops (Standing b) h = refl
stops (Busy p zero) h = runs_rest (stays p)
stops (Busy p (suc n)) h = absurd (omega arith)

state_tick : (xs : Columns) (c : ℕ) → state_at (tick_all xs) c ≡ next (state_at xs c)
state_tick xs c = ap (λ (x : Column). x.state) (at_tick xs c)

quiet_after : (n : ℕ) (xs : Columns) → ((c : ℕ) → left (state_at xs c) ≤ n) → Quiet (after_ticks (suc n) xs)
quiet_after zero xs h = λ c. ap runs (state_tick xs c) ∙ stops (state_at xs c) (h c)
quiet_after (suc n) xs h = quiet_after n (tick_all xs) (λ c. omega (arith, ap left (state_tick xs c), less (state_at xs c) n (h c)))

past_free : (xs : Columns) (c : ℕ) → length xs ≤ c → state_at xs c ≡ Free
past_free xs c l = ap (λ (x : Column). x.state) (get_or_past xs c fresh l)

pub ends : (xs : Columns) → (n : ℕ) × Quiet (after_ticks n xs)
ends xs =
    let most = sum_below (λ c. left (state_at xs c)) (length xs) in (
      suc most,
      quiet_after most xs (λ c. elim (cases_lt c (length xs)) [
        | inl l ↦ sum_has (λ c. left (state_at xs c)) (length xs) c l
        | inr g ↦ omega (arith, ap left (past_free xs c g))
      ]),
    )

pub quiet_or_not : (xs : Columns) → Quiet xs ⊎ (Quiet xs → ⊥)
quiet_or_not xs = go (cases_Bool (any_below busy_at (length xs)))
  where
    busy_at : ℕ → Bool
    busy_at c = runs (state_at xs c)

    go : (any_below busy_at (length xs) ≡ true) ⊎ (any_below busy_at (length xs) ≡ false) → Quiet xs ⊎ (Quiet xs → ⊥)
    go (inl e) =
        let s = (Decides-below_or busy_at (λ c. busy_at c ≡ true) (any_below busy_at) (λ c. (λ i. i, λ i. i)) refl (λ _. refl) (length xs)).0 e in
        inr (λ q. both_ways (busy_at s.0) (q s.0) s.2)
    go (inr e) = inl (λ c. elim (cases_lt c (length xs)) [ inl l ↦ none_below busy_at (length xs) e c l | inr g ↦ ap runs (past_free xs c g) ])

-- ticks until nothing runs, and what every tick keeps
pub record Rests (P : Columns → Type 0) (xs : Columns) : Type 0 where
  pub end : Columns
  pub rested : Rested xs end
  pub quiet : Quiet end
  pub kept : P end

pub rests : (P : Columns → Type 0) → ((xs : Columns) → P xs → P (tick_all xs)) → (n : ℕ) (xs : Columns) → Quiet (after_ticks n xs) → P xs → Rests P xs
rests P keeps zero xs q p = record { end = xs; rested = Rested.quiet q; quiet = q; kept = p }
rests P keeps (suc n) xs q p = go (quiet_or_not xs) (rests P keeps n (tick_all xs) q (keeps xs p))
  where
    go : Quiet xs ⊎ (Quiet xs → ⊥) → Rests P (tick_all xs) → Rests P xs
    go (inl now) r = record { end = xs; rested = Rested.quiet now; quiet = now; kept = p }
    go (inr no') r = record { end = r.end; rested = Rested.tick no' r.rested; quiet = r.quiet; kept = r.kept }
