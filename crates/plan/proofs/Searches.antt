-- Each test of an action, and each search for one, decides what it is about. Assumes nothing.
use Rattle.std.proofs.Common.{◌≡◌, ℕ, zero, suc, ◌<◌, Bool, true, false, not, ◌||◌, eqb, ltb, leb, ◌≢◌, List, [], ◌∷◌, length, get_or, Decides, sym, refl, ⊎_elim, arith}
use Rattle.std.proofs.lemmas.Bool.{or_left, or_right, or_cases, true≢false}
use Rattle.std.proofs.lemmas.Bool.Decides.{Decides-and, Decides-eqb, Decides-like, Decides-ltb}
use Rattle.terms.proofs.Tests.{decides_leb}
use Rattle.terms.specs.declared.work.Work.{Work}
use Rattle.terms.specs.declared.work.Work.TheVariants.{Entry, Leave, Wait, Move, PickUp, Deliver}
use Rattle.plan.specs.Plan.{Action, Ends, Runs, Starts, carried, end_column, ends, is_entry, is_leave, no_action, runs, some_of, starts}
use Rattle.plan.specs.Rules.{Carried}

-- what does not fail holds, where it can be decided
pub stable : {P : Type 0} (b : Bool) → Decides b P → ((P → ⊥) → ⊥) → P
stable true d n = d.0 refl
stable false d n = absurd (n (λ p. true≢false (sym (d.1 p))))

pub yes : {P : Type 0} → P → Decides true P
yes p = (λ _. p, λ _. refl)

pub no : {P : Type 0} → (P → ⊥) → Decides false P
no n = (λ e. absurd (true≢false (sym e)), λ p. absurd (n p))

pub decides_no_entry : (w : Work) → Decides (not (is_entry w)) (w ≢ Entry)
decides_no_entry Entry = no (λ n. n refl)
decides_no_entry Leave = yes (λ e. cc)
decides_no_entry Wait = yes (λ e. cc)
decides_no_entry Move = yes (λ e. cc)
decides_no_entry PickUp = yes (λ e. cc)
decides_no_entry Deliver = yes (λ e. cc)

pub decides_no_leave : (w : Work) → Decides (not (is_leave w)) (w ≢ Leave)
decides_no_leave Entry = yes (λ e. cc)
decides_no_leave Leave = no (λ n. n refl)
decides_no_leave Wait = yes (λ e. cc)
decides_no_leave Move = yes (λ e. cc)
decides_no_leave PickUp = yes (λ e. cc)
decides_no_leave Deliver = yes (λ e. cc)

pub decides_runs : (t : ℕ) (a : Action) → Decides (runs t a) (Runs a t)
decides_runs t a =
    Decides-like (runs t a) (λ p. record { begun = p.0; before_end = p.1 }) (λ r. (r.begun, r.before_end))
    (Decides-and (leb a.start t) (ltb t a.end) (decides_leb _ _) (Decides-ltb _ _))

pub decides_ends : (t c : ℕ) (a : Action) → Decides (ends t c a) (Ends a t c)
decides_ends t c a =
    Decides-like (ends t c a) (λ p. record { no_leave = p.0; when = p.1.0; where_to = p.1.1 }) (λ r. (r.no_leave, (r.when, r.where_to)))
    (Decides-and (not (is_leave a.work)) _ (decides_no_leave a.work) (Decides-and (eqb a.end t) (eqb (end_column a) c) (Decides-eqb _ _) (Decides-eqb _ _)))

pub decides_starts : (t c : ℕ) (a : Action) → Decides (starts t c a) (Starts a t c)
decides_starts t c a =
    Decides-like (starts t c a) (λ p. record { no_entry = p.0; when = p.1.0; where_from = p.1.1 }) (λ r. (r.no_entry, (r.when, r.where_from)))
    (Decides-and (not (is_entry a.work)) _ (decides_no_entry a.work) (Decides-and (eqb a.start t) (eqb a.from c) (Decides-eqb _ _) (Decides-eqb _ _)))

-- some element passes, where each test decides
pub decides_some_of : {X : Type 0} (p : X → Bool) (P : X → Type 0) (d : X) → ((x : X) → Decides (p x) (P x)) → (xs : List X)
    → Decides (some_of p xs) ((i : ℕ) × (i < length xs) × P (get_or xs i d))
decides_some_of p P d each [] = no (λ w. omega (arith, w.1))
decides_some_of p P d each (x ∷ xs) =
    let ih = decides_some_of p P d each xs in (
      λ e. ⊎_elim (λ f. (0, omega arith, (each x).0 f)) (λ f. let w = ih.0 f in (suc w.0, omega (arith, w.1), w.2)) (or_cases (p x) (some_of p xs) e),
      back ih.1,
    )
  where
    back : (((i : ℕ) × (i < length xs) × P (get_or xs i d)) → some_of p xs ≡ true) → ((i : ℕ) × (i < length (x ∷ xs)) × P (get_or (x ∷ xs) i d)) → (p x || some_of p xs) ≡ true
    back rest (zero, l, q) = or_left (p x) (some_of p xs) ((each x).1 q)
    back rest (suc i, l, q) = or_right (p x) (some_of p xs) (rest (i, omega arith, q))

pub decides_carried : (plan : List Action) (t c : ℕ) → Decides (carried plan t c) (Carried plan t c)
decides_carried plan t c = decides_some_of (starts t c) (λ a. Starts a t c) no_action (decides_starts t c) plan
