-- Deeds come to the calls of the gate that they make. Assumes nothing.
use Rattle.std.proofs.Common.{◌≡◌, ℕ, zero, suc, ◌-◌, Bool, true, false, cond, List, [], ◌∷◌, ◌++◌, replicate, Some, None, Option, sym, refl, ap, ◌∙◌}
use Rattle.terms.specs.Refusals.{Told, told}
use Rattle.terms.specs.declared.refusal.Rule.TheVariants.{NotFresh}
use Rattle.gate.specs.declared.call.Call.{Call}
use Rattle.gate.specs.declared.call.Call.TheVariants.{Tick}
use Rattle.gate.specs.Scene.{Scene}
use Rattle.gate.specs.Gate.{grant, refusal, settle, step}
use Rattle.undertaking.specs.Runs.{run}
use Rattle.plan.specs.Plan.{Action}
use Rattle.play.specs.Play.{Outcome, call_of, called, is_fresh, play, ready, refusal_of, unless}
use Rattle.gate.specs.Time.{after_ticks, longest}
use Rattle.service.specs.Deeds.{Deed, plan_calls, done, if_made, runs, calls_by, calls_by_all, unless_refused}

pub run_append : (ks ls : List Call) (v : Scene) → run v (ks ++ ls) ≡ run (run v ks) ls
run_append [] ls v = refl
run_append (k ∷ ks) ls v = run_append ks ls (step v k)

pub run_ticks : (n : ℕ) (v : Scene) → run v (replicate n Tick) ≡ after_ticks n v
run_ticks zero v = refl
run_ticks (suc n) v = run_ticks n (step v Tick)

-- from the start of an action on: its call, and what follows where it is not refused
module _ (line : ℕ) (u : Scene) (on : Scene → Outcome) (more : Scene → List Call) (same : (w : Scene) → run w (more w) ≡ (on w).site) where
  decided : (k : Call) (o : Option Told) → refusal u k ≡ o
      → run (settle o (grant u k) u) (unless_refused o (more (settle o (grant u k) u))) ≡ (unless o line u (on (settle o (grant u k) u))).site
  decided k None e = same (grant u k)
  decided k (Some t) e = refl

  from_start : (o : Option Call) → run u (if_made o ++ unless_refused (refusal_of u o) (more (called u o))) ≡ (unless (refusal_of u o) line u (on (called u o))).site
  from_start None = same u
  from_start (Some k) = decided k (refusal u k) refl

pub calls_play : (actions : List Action) (now : ℕ) (v : Scene) → run v (plan_calls actions now v) ≡ (play actions now v).site
calls_play [] now v = run_ticks (longest v.columns) v
calls_play (a ∷ rest) now v =
    let u = ready a now v in
    let later = if_made (call_of a) ++ unless_refused (refusal_of u (call_of a)) (plan_calls rest a.start (called u (call_of a))) in
    run_append (replicate (a.start - now) Tick) later v
    ∙ ap (λ (w : Scene). run w later) (run_ticks (a.start - now) v)
    ∙ from_start a.line u (play rest a.start) (plan_calls rest a.start) (λ w. calls_play rest a.start w) (call_of a)

pub done_run : (v : Scene) (d : Deed) → done v d ≡ run v (calls_by v d)
done_run v (Deed.call k) = refl
done_run v (Deed.plays actions) = go (is_fresh v)
  where
    go : (b : Bool) → (cond b (play actions 0 v) (record { answer = Some (told NotFresh 0 0); site = v })).site ≡ run v (cond b (plan_calls actions 0 v) [])
    go true = sym (calls_play actions 0 v)
    go false = refl

pub runs_run : (ds : List Deed) (v : Scene) → runs v ds ≡ run v (calls_by_all v ds)
runs_run [] v = refl
runs_run (d ∷ ds) v =
    runs_run ds (done v d)
    ∙ ap (λ (w : Scene). run w (calls_by_all (done v d) ds)) (done_run v d)
    ∙ sym (run_append (calls_by v d) (calls_by_all (done v d) ds) v)
