-- How the columns of a site show the actions that were begun: the relation between a plan and a site, k actions begun, at time t.
-- Assumes nothing.
use Rattle.std.proofs.Common.{◌≡◌, ℕ, ◌+◌, ◌<◌, ◌≤◌, eqb, ◌⊎◌, List, length, count_by, inl, arith}
use Rattle.terms.specs.Durations.{SiteSettings}
use Rattle.ground.specs.Meaning.{Meaning}
use Rattle.gate.specs.declared.column.State.TheVariants.{Free, Standing}
use Rattle.gate.specs.Scene.{Columns, state_at}
use Rattle.gate.specs.Scene.{height_at as height_in}
use Rattle.plan.specs.Plan.{Action, Ends, Runs, Touches, carry_after, delivers, is_deliver, is_pick_up, line, no_action, picks}
use Rattle.plan.proofs.Counts.{count_none}
use Rattle.plan.proofs.Judged.{not_yet}
use Rattle.play.specs.Shown.{Holder, NoneStarts, shown}
use Rattle.play.proofs.Faces.{Fits}
use Rattle.play.proofs.Plans.{Obeys, longer}

pub record Shows (m : Meaning) (plan : List Action) (k t : ℕ) (xs : Columns) : Type 0 where
  pub size : length xs ≡ m.columns
  pub so_far : k ≤ length plan
  pub begun : (i : ℕ) → i < k → (line plan i).start ≤ t
  pub coming : (i : ℕ) → k ≤ i → i < length plan → t ≤ (line plan i).start
  pub running : (i c : ℕ) → i < k → Runs (line plan i) t → Touches (line plan i) c → state_at xs c ≡ shown (line plan i) t c
  pub standing : (i c : ℕ) → i < k → Ends (line plan i) t c → NoneStarts plan k t c → state_at xs c ≡ Standing (carry_after (line plan i))
  pub explained : (c : ℕ) → (state_at xs c ≡ Free) ⊎ Holder plan k t c
  pub raised : (c : ℕ) → count_by (delivers t c) plan ≡ height_in xs c + count_by (picks t c) plan
  -- what changes a height finds one that lets it
  pub fitting : (i : ℕ) → i < k → Runs (line plan i) t → Fits (line plan i).work (height_in xs (line plan i).to)

module _ {m : Meaning} {s : SiteSettings} {plan : List Action} {targets : ℕ → ℕ} (ob : Obeys m s plan targets) where
  pub shows_fresh : {xs : Columns} → length xs ≡ m.columns → ((c : ℕ) → state_at xs c ≡ Free) → ((c : ℕ) → height_in xs c ≡ 0) → Shows m plan 0 0 xs
  shows_fresh size free flat =
      record {
        size = size;
        so_far = omega arith;
        begun = λ i l. absurd (omega arith);
        coming = λ i k l. omega arith;
        running = λ i c l r w. absurd (omega arith);
        standing = λ i c l e n. absurd (omega arith);
        explained = λ c. inl (free c);
        raised = λ c.
            let d = count_none (delivers 0 c) no_action plan
            (λ i l. not_yet (is_deliver (line plan i).work) (eqb (line plan i).to c) (line plan i).end 0 (omega (arith, longer ob i l))) in
            let p = count_none (picks 0 c) no_action plan
            (λ i l. not_yet (is_pick_up (line plan i).work) (eqb (line plan i).to c) (line plan i).end 0 (omega (arith, longer ob i l))) in
            omega (arith, flat c);
        fitting = λ i l r. absurd (omega arith);
      }
