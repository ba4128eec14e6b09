-- The tests of an action are what they are said to be. Assumes nothing.
use Rattle.std.proofs.Common.{◌≡◌, ℕ, ◌+◌, ◌≤◌, Bool, true, false, ◌&&◌, eqb, leb, ◌≢◌, ◌⊎◌, Decides, sym, refl, ap, ◌∙◌, inl, inr, zero, suc, ◌<◌, cond, List, [], ◌∷◌, length, get_or, arith}
use Rattle.std.proofs.lemmas.Bool.{eq-eqb, eqb-true, true≢false}
use Rattle.std.proofs.lemmas.Bool.Decides.{Decides-and, Decides-eqb, Decides-like, Decides-or}
use Rattle.terms.proofs.Tests.{decides_leb}
use Rattle.terms.specs.Durations.{SiteSettings, Takes, Times, duration_of}
use Rattle.terms.specs.declared.work.Work.{Work}
use Rattle.terms.specs.declared.work.Work.TheVariants.{Entry, Leave, Wait, Move, PickUp, Deliver}
use Rattle.plan.specs.Lines.{due}
use Rattle.plan.specs.Plan.{Action, carry_after_of, end_column_of, is_deliver, is_pick_up, shares}
use Rattle.plan.specs.Rules.{IsTarget, no_target, target_of}
use Rattle.plan.specs.Tests.{Shares, TestsOf}
use Rattle.sheet.specs.declared.target.Target.{Target}
use Rattle.plan.proofs.Searches.{decides_ends, decides_runs, decides_starts, no, yes}

decides_deliver : (w : Work) → Decides (is_deliver w) (w ≡ Deliver)
decides_deliver Entry = no (λ e. cc)
decides_deliver Leave = no (λ e. cc)
decides_deliver Wait = no (λ e. cc)
decides_deliver Move = no (λ e. cc)
decides_deliver PickUp = no (λ e. cc)
decides_deliver Deliver = yes refl

decides_pick_up : (w : Work) → Decides (is_pick_up w) (w ≡ PickUp)
decides_pick_up Entry = no (λ e. cc)
decides_pick_up Leave = no (λ e. cc)
decides_pick_up Wait = no (λ e. cc)
decides_pick_up Move = no (λ e. cc)
decides_pick_up PickUp = yes refl
decides_pick_up Deliver = no (λ e. cc)

module _ (a : Action) where
  -- a work that is done on a column by a time
  decides_done : (b : Bool) (W : Type 0) → Decides b W → (t c : ℕ) → Decides (b && (eqb a.to c && leb a.end t)) (W × (a.to ≡ c) × (a.end ≤ t))
  decides_done b W d t c =
      Decides-like (b && (eqb a.to c && leb a.end t)) (λ p. (p.0, p.1.0, p.1.1)) (λ p. (p.0, (p.1, p.2)))
      (Decides-and b _ d (Decides-and (eqb a.to c) (leb a.end t) (Decides-eqb a.to c) (decides_leb a.end t)))

  meets : (b : Action) → ((a.from ≡ b.from) ⊎ ((a.from ≡ b.to) ⊎ ((a.to ≡ b.from) ⊎ (a.to ≡ b.to)))) → Shares a b
  meets b (inl e) = (a.from, inl refl, inl (sym e))
  meets b (inr (inl e)) = (a.from, inl refl, inr (sym e))
  meets b (inr (inr (inl e))) = (a.to, inr refl, inl (sym e))
  meets b (inr (inr (inr e))) = (a.to, inr refl, inr (sym e))

  met : (b : Action) → Shares a b → (a.from ≡ b.from) ⊎ ((a.from ≡ b.to) ⊎ ((a.to ≡ b.from) ⊎ (a.to ≡ b.to)))
  met b (c, inl e, inl f) = inl (e ∙ sym f)
  met b (c, inl e, inr f) = inr (inl (e ∙ sym f))
  met b (c, inr e, inl f) = inr (inr (inl (e ∙ sym f)))
  met b (c, inr e, inr f) = inr (inr (inr (e ∙ sym f)))

  decides_shares : (b : Action) → Decides (shares a b) (Shares a b)
  decides_shares b =
      Decides-like (shares a b) (meets b) (met b)
      (Decides-or (eqb a.from b.from) _ (Decides-eqb _ _) (Decides-or (eqb a.from b.to) _ (Decides-eqb _ _)
      (Decides-or (eqb a.to b.from) (eqb a.to b.to) (Decides-eqb _ _) (Decides-eqb _ _))))

stays_of : (w : Work) (f o : ℕ) → (w ≢ Move) → end_column_of w f o ≡ f
stays_of Entry f o n = refl
stays_of Leave f o n = refl
stays_of Wait f o n = refl
stays_of Move f o n = absurd (n refl)
stays_of PickUp f o n = refl
stays_of Deliver f o n = refl

keeps_of : (w : Work) (b : Bool) → (w ≢ PickUp) → (w ≢ Deliver) → carry_after_of w b ≡ b
keeps_of Entry b n k = refl
keeps_of Leave b n k = refl
keeps_of Wait b n k = refl
keeps_of Move b n k = refl
keeps_of PickUp b n k = absurd (n refl)
keeps_of Deliver b n k = absurd (k refl)

pub tests_of : (a : Action) → TestsOf a
tests_of a =
    record {
      running = λ t. decides_runs t a;
      starting = λ t c. decides_starts t c a;
      ending = λ t c. decides_ends t c a;
      delivering = decides_done a (is_deliver a.work) (a.work ≡ Deliver) (decides_deliver a.work);
      picking = decides_done a (is_pick_up a.work) (a.work ≡ PickUp) (decides_pick_up a.work);
      sharing = decides_shares a;
      moves_over = λ e. ap (λ (w : Work). end_column_of w a.from a.to) e;
      stays = stays_of a.work a.from a.to;
      picks_up = λ e. ap (λ (w : Work). carry_after_of w a.carry) e;
      lays_down = λ e. ap (λ (w : Work). carry_after_of w a.carry) e;
      keeps_load = keeps_of a.work a.carry;
    }

takes : (t : Times) (w : Work) (b : Bool) → Takes t w b (duration_of t w b)
takes t Entry b = Takes.entry b
takes t Leave b = Takes.leave b
takes t Wait b = Takes.wait b
takes t Move true = Takes.move_loaded
takes t Move false = Takes.move_empty
takes t PickUp b = Takes.pick_up b
takes t Deliver b = Takes.deliver b

pub ends_when_done : (s : SiteSettings) (a : Action) → (n : ℕ) × Takes s.times a.work a.carry n × (due s a ≡ a.start + n)
ends_when_done s a = (duration_of s.times a.work a.carry, takes s.times a.work a.carry, refl)

-- the target of a column
one_on : (t : Target) (ts : List Target) (c h : ℕ) → (t.column ≢ c) → IsTarget ts c h → IsTarget (t ∷ ts) c h
one_on t ts c h n (IsTarget.named i l e before) =
    IsTarget.named (suc i) (omega arith) e below
  where
    below : (j : ℕ) → j < suc i → (get_or (t ∷ ts) j no_target).column ≢ c
    below zero k = n
    below (suc j) k = before j (omega arith)
one_on t ts c h n (IsTarget.unnamed none) = IsTarget.unnamed all
  where
    all : (i : ℕ) → i < length (t ∷ ts) → (get_or (t ∷ ts) i no_target).column ≢ c
    all zero k = n
    all (suc i) k = none i (omega arith)

pub is_target : (ts : List Target) (c : ℕ) → IsTarget ts c (target_of ts c)
is_target [] c = IsTarget.unnamed (λ i l. absurd (omega arith))
is_target (t ∷ ts) c = go (eqb t.column c) refl (is_target ts c)
  where
    go : (b : Bool) → eqb t.column c ≡ b → IsTarget ts c (target_of ts c) → IsTarget (t ∷ ts) c (cond b t.height (target_of ts c))
    go true e w = IsTarget.named 0 (omega arith) (eqb-true t.column c e) (λ j l. absurd (omega arith))
    go false e w = one_on t ts c (target_of ts c) (λ i. true≢false (sym (eq-eqb t.column c i) ∙ e)) w
