-- With one more action that breaks no rule, actions that broke none stay so. Assumes nothing.
use Rattle.std.proofs.Common.{◌≡◌, ℕ, ◌<◌, ◌≤◌, ◌≢◌, ◌⊎◌, List, [], ◌∷◌, ◌++◌, length, sym, refl, subst, inl, inr, arith}
use Rattle.std.proofs.lemmas.Bool.{cases_lt}
use Rattle.std.proofs.lemmas.List.{get_or_append_left, get_or_push, length_push}
use Rattle.terms.specs.Durations.{SiteSettings}
use Rattle.terms.specs.declared.work.Work.{Work}
use Rattle.terms.specs.declared.work.Work.TheVariants.{Entry, Leave, Wait, Move, PickUp, Deliver}
use Rattle.ground.specs.Meaning.{Meaning}
use Rattle.plan.specs.Judged.{Meets, Timed}
use Rattle.plan.specs.Plan.{Action, Starts, carried, end_column, end_column_of, line, no_action}
use Rattle.plan.specs.Rules.{Carried}
use Rattle.plan.proofs.Searches.{decides_carried, stable}
use Rattle.judge.specs.Finding.{Settled}
use Rattle.judge.specs.Judging.{latest_start}
use Rattle.judge.proofs.Past.{latest_push}

within : (w : Work) (f o n : ℕ) → f < n → o < n → end_column_of w f o < n
within Entry f o n p q = p
within Leave f o n p q = p
within Wait f o n p q = p
within Move f o n p q = q
within PickUp f o n p q = p
within Deliver f o n p q = p

-- what holds of each action and of one more holds of all
pub each_pushed : (P : Action → Type 0) (xs : List Action) (x : Action) → ((i : ℕ) → i < length xs → P (line xs i)) → P x
    → (i : ℕ) → i < length (xs ++ (x ∷ [])) → P (line (xs ++ (x ∷ [])) i)
each_pushed P xs x each here i l = go (cases_lt i (length xs))
  where
    go : (i < length xs) ⊎ (length xs ≤ i) → P (line (xs ++ (x ∷ [])) i)
    go (inl b) = subst P (sym (get_or_append_left xs (x ∷ []) no_action i b)) (each i b)
    go (inr g) = subst P (sym (get_or_push xs x no_action i (omega (arith, length_push xs x)))) here

some_pushed : (P : Action → Type 0) (xs : List Action) (x : Action) → ((i : ℕ) × (i < length xs) × P (line xs i)) → ((i : ℕ) × (i < length (xs ++ (x ∷ []))) × P (line (xs ++ (x ∷ [])) i))
some_pushed P xs x (i, l, p) = (i, omega (arith, length_push xs x), subst P (sym (get_or_append_left xs (x ∷ []) no_action i l)) p)

pub settled_none : (m : Meaning) → Settled m []
settled_none m = record { grounded = λ i l. absurd (omega arith); carried_on = λ i l n b. absurd (omega arith) }

pub settled_more : (m : Meaning) (s : SiteSettings) (above : List Action) (a : Action) → Timed s → Settled m above → Meets m s above a → Settled m (above ++ (a ∷ []))
settled_more m s above a timed so w =
    record {
      grounded = each_pushed (λ b. end_column b < m.columns) above a so.grounded (within a.work a.from a.to m.columns w.on_scale.from_ground w.on_scale.to_ground);
      carried_on = λ i l n b.
          each_pushed (λ x. x.work ≢ Leave → x.end < a.start → Carried (above ++ (a ∷ [])) x.end (end_column x)) above a
          (λ k lk nk bk. some_pushed (λ x. Starts x (line above k).end (end_column (line above k))) above a (on k lk nk bk))
          (λ _ late. absurd (omega (arith, timed a.work a.carry, w.lasts))) i l n (subst (λ (t : ℕ). (line (above ++ (a ∷ [])) i).end < t) last b);
    }
  where
    last : latest_start (above ++ (a ∷ [])) ≡ a.start
    last = latest_push above a

    on : (k : ℕ) → k < length above → (line above k).work ≢ Leave → (line above k).end < a.start → Carried above (line above k).end (end_column (line above k))
    on k l n b =
        stable (carried above (line above k).end (end_column (line above k))) (decides_carried above (line above k).end (end_column (line above k)))
        (λ out. w.none_left (end_column (line above k)) (so.grounded k l) (k, l, n, b, refl, out))
