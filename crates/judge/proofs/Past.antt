-- Actions that have passed: with more time, with one action more, and one more of them. Assumes nothing.
use Rattle.std.proofs.Common.{◌≡◌, ℕ, ◌+◌, ◌-◌, ◌<◌, ◌≤◌, ◌⊎◌, List, [], ◌∷◌, ◌++◌, length, sym, ap, subst, inl, inr, arith}
use Rattle.std.proofs.lemmas.Bool.{cases_lt}
use Rattle.std.proofs.lemmas.List.{get_or_append_left, get_or_push, length_push}
use Rattle.plan.specs.Plan.{Action, line, no_action}
use Rattle.judge.specs.Finding.{Passed}
use Rattle.judge.specs.Judging.{latest_start}

pub passed_none : (plan : List Action) (t : ℕ) → Passed plan t 0
passed_none plan t = record { within = omega arith; ordered = λ i l. absurd (omega arith); ended = λ i l. absurd (omega arith) }

-- by a later time, below one action more
pub latest_push : (plan : List Action) (a : Action) → latest_start (plan ++ (a ∷ [])) ≡ a.start
latest_push plan a = ap (λ (x : Action). x.start) (get_or_push plan a no_action (length (plan ++ (a ∷ [])) - 1) (omega (arith, length_push plan a)))

pub passed_push : (plan : List Action) (a : Action) (t u n : ℕ) → t ≤ u → Passed plan t n → Passed (plan ++ (a ∷ [])) u n
passed_push plan a t u n late past =
    record {
      within = omega (arith, length_push plan a, past.within);
      ordered = λ i l. subst (λ (b : Action). b.start < b.end) (same i l) (past.ordered i l);
      ended = λ i l. subst (λ (b : Action). b.end < u) (same i l) (let e = past.ended i l in omega arith);
    }
  where
    same : (i : ℕ) → i < n → line plan i ≡ line (plan ++ (a ∷ [])) i
    same i l = sym (get_or_append_left plan (a ∷ []) no_action i (omega (arith, past.within)))

pub passed_more : (plan : List Action) (t n : ℕ) → Passed plan t n → n < length plan → (line plan n).start < (line plan n).end → (line plan n).end < t → Passed plan t (n + 1)
passed_more plan t n past l o e =
    record { within = omega arith; ordered = λ i b. ordered i b (cases_lt i n); ended = λ i b. ended i b (cases_lt i n) }
  where
    ordered : (i : ℕ) → i < n + 1 → (i < n) ⊎ (n ≤ i) → (line plan i).start < (line plan i).end
    ordered i b (inl h) = past.ordered i h
    ordered i b (inr h) = let same : n ≡ i = omega arith in subst (λ (j : ℕ). (line plan j).start < (line plan j).end) same o

    ended : (i : ℕ) → i < n + 1 → (i < n) ⊎ (n ≤ i) → (line plan i).end < t
    ended i b (inl h) = past.ended i h
    ended i b (inr h) = let same : n ≡ i = omega arith in subst (λ (j : ℕ). (line plan j).end < t) same e
