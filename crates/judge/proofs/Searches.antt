-- Searches over what the elements of a list stand for are searches over the elements. Assumes nothing.
use Rattle.std.proofs.Common.{◌≡◌, ℕ, suc, ◌<◌, ◌≤◌, max, Bool, true, false, cond, ◌||◌, eqb, ◌⊎◌, List, [], ◌∷◌, map, length, get_or, Some, None, Option, refl, ap, ◌∙◌, inl, inr, arith}
use Rattle.std.specs.List.{fold, list_any, reduce, find as first}
use Rattle.std.specs.Option.{option_map, unwrap_or}
use Rattle.std.proofs.lemmas.Bool.{cases_lt}
use Rattle.std.proofs.lemmas.List.Recursion.{same_from_clauses}
use Rattle.sheet.specs.declared.target.Target.{Target}
use Rattle.plan.specs.declared.action.Action.{Action as Held}
use Rattle.plan.specs.Plan.{Action, some_of}
use Rattle.plan.specs.Rules.{target_of}
use Rattle.plan.specs.View.{action_of, plan_of}
use Rattle.judge.specs.Finding.{find, line_in}

module _ {X Y : Type 0} (f : X → Y) (p : Y → Bool) where
  pub some_is : (xs : List X) → list_any (λ x. p (f x)) xs ≡ some_of p (map f xs)
  some_is = same_from_clauses (list_any (λ x. p (f x))) (λ xs. some_of p (map f xs)) (λ x b. p (f x) || b) refl (λ _ _. refl) (λ _ _. refl)

  pub find_is : (xs : List X) → option_map f (first (λ x. p (f x)) xs) ≡ find p (map f xs)
  find_is [] = refl
  find_is (x ∷ xs) = go (p (f x)) (first (λ y. p (f y)) xs) (find p (map f xs)) (find_is xs)
    where
      go : (b : Bool) (o : Option X) (r : Option Y) → option_map f o ≡ r → option_map f (cond b (Some x) o) ≡ cond b (Some (f x)) r
      go true o r e = refl
      go false o r e = e

pub target_is : (c : ℕ) (ts : List Target) → unwrap_or (option_map (λ (t : Target). t.height) (first (λ t. eqb t.column c) ts)) 0 ≡ target_of ts c
target_is c [] = refl
target_is c (t ∷ ts) = go (eqb t.column c) (first (λ u. eqb u.column c) ts) (target_of ts c) (target_is c ts)
  where
    go : (b : Bool) (o : Option Target) (n : ℕ) → unwrap_or (option_map (λ (t : Target). t.height) o) 0 ≡ n
        → unwrap_or (option_map (λ (t : Target). t.height) (cond b (Some t) o)) 0 ≡ cond b t.height n
    go true o n e = refl
    go false o n e = e

-- the line of the action that is found
pub line_found : (p : Action → Bool) (xs : List Held) (o : Option Held) → o ≡ first (λ x. p (action_of x)) xs → option_map (λ (x : Held). x.line) o ≡ line_in (find p (plan_of xs))
line_found p xs o e = same o ∙ ap (λ (r : Option Held). line_in (option_map action_of r)) e ∙ ap line_in (find_is action_of p xs)
  where
    same : (o : Option Held) → option_map (λ (x : Held). x.line) o ≡ line_in (option_map action_of o)
    same None = refl
    same (Some x) = refl

-- the largest of a number of each element, 0 for none
module _ {Y : Type 0} (F : List Y → ℕ) (g : Y → ℕ) (none : F [] ≡ 0) (step : (y : Y) (ys : List Y) → F (y ∷ ys) ≡ max (g y) (F ys)) where
  from_here : {X : Type 0} (f : X → Y) (n : ℕ) (xs : List X) → fold max n (map (λ x. g (f x)) xs) ≡ max n (F (map f xs))
  from_here f n [] = omega (arith, none)
  from_here f n (x ∷ xs) = omega (arith, from_here f (max n (g (f x))) xs, step (f x) (map f xs))

  pub largest_is : {X : Type 0} (f : X → Y) (xs : List X) (o : Option ℕ) → option_map (λ n. n) o ≡ reduce max (map (λ x. g (f x)) xs) → unwrap_or o 0 ≡ F (map f xs)
  largest_is {X = X} f xs None e = nothing xs e
    where
      nothing : (xs : List X) → None ≡ reduce max (map (λ x. g (f x)) xs) → 0 ≡ F (map f xs)
      nothing [] e = omega (arith, none)
      nothing (x ∷ xs) e = absurd (cc)
  largest_is {X = X} f xs (Some n) e = something xs e
    where
      something : (xs : List X) → Some n ≡ reduce max (map (λ x. g (f x)) xs) → n ≡ F (map f xs)
      something [] e = absurd (cc)
      something (x ∷ xs) e = ap (λ (r : Option ℕ). unwrap_or r 0) e ∙ from_here f (g (f x)) xs ∙ omega (arith, step (f x) (map f xs))

  pub largest_at : (d : Y) (ys : List Y) → ((length ys ≡ 0) × (F ys ≡ 0)) ⊎ ((i : ℕ) × (i < length ys) × (g (get_or ys i d) ≡ F ys))
  largest_at d [] = inl (refl, none)
  largest_at d (y ∷ ys) = go (cases_lt (g y) (F ys)) (largest_at d ys)
    where
      s : F (y ∷ ys) ≡ max (g y) (F ys)
      s = step y ys

      go : (g y < F ys) ⊎ (F ys ≤ g y) → ((length ys ≡ 0) × (F ys ≡ 0)) ⊎ ((i : ℕ) × (i < length ys) × (g (get_or ys i d) ≡ F ys))
          → ((length (y ∷ ys) ≡ 0) × (F (y ∷ ys) ≡ 0)) ⊎ ((i : ℕ) × (i < length (y ∷ ys)) × (g (get_or (y ∷ ys) i d) ≡ F (y ∷ ys)))
      go (inr l) o = inr (0, omega arith, omega (arith, s))
      go (inl l) (inl z) = absurd (omega arith)
      go (inl l) (inr (i, b, e)) = inr (suc i, omega arith, omega (arith, s))
