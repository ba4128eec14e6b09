-- Clearing a site that is called from its opening: nothing runs, recall is obeyed, and no robot is left. Assumes nothing.
use Rattle.std.proofs.Common.{◌≡◌, ℕ, zero, suc, ◌<◌, inl, inr, List, [], ◌∷◌, map, Ok, Err, Result, refl, ap, sym, ◌∙◌, subst, arith}
use Rattle.std.proofs.lemmas.Bool.{cases_lt}
use Rattle.terms.specs.Refusals.{Told}
use Rattle.gate.specs.declared.call.Call.{Call}
use Rattle.gate.specs.declared.call.Call.TheVariants.{Tick, Recall}
use Rattle.gate.specs.declared.order.Order.{Order}
use Rattle.gate.specs.Gate.{step}
use Rattle.gate.specs.Recall.{recall}
use Rattle.gate.specs.Scene.{Scene}
use Rattle.undertaking.specs.Obeying.{Obeyed, Rested, call_of}
use Rattle.gate.specs.Time.{Quiet, after_ticks, longest, settled}
use Rattle.undertaking.specs.Runs.{run}
use Rattle.gate.proofs.Waiting.{settle_on, settles_so}
use Rattle.service.specs.Deeds.{Deed, runs}
use Rattle.service.proofs.Unfolding.{run_append, run_ticks}
use Rattle.console.specs.Halls.{cleared, clearing, home, homeward, left, made, obeyed, resting}

-- a site at which nothing runs is settled, and so is one that has rested
none_left : (v : Scene) → (0 < longest v.columns → ⊥) → longest v.columns ≡ 0
none_left v h = elim (cases_lt 0 (longest v.columns)) [ inl l ↦ absurd (h l) | inr g ↦ omega arith ]

quiet_settled : (v : Scene) → Quiet v.columns → settled v ≡ v
quiet_settled v q = ap (λ n. after_ticks n v) (none_left v (λ l. (settles_so v).no_sooner 0 l q))

rested_settled : {v w : Scene} → Rested v w → settled v ≡ w
rested_settled {v} (Rested.quiet q) = quiet_settled v q
rested_settled {v} (Rested.tick moves r) = sym (settle_on v (step v Tick) refl some) ∙ rested_settled r
  where
    some : 0 < longest v.columns
    some = elim (cases_lt 0 (longest v.columns)) [
      | inl l ↦ l
      | inr g ↦ let none : longest v.columns ≡ 0 = omega arith in absurd (moves (subst (λ n. Quiet (after_ticks n v).columns) none (settles_so v).quiet))
    ]

-- the calls of clearing come to the site that is cleared
made_runs : (v : Scene) (r : Result Order Told) → run v (made v r) ≡ obeyed v r
made_runs v (Err t) = refl
made_runs v (Ok o) = run_ticks (longest (step v (call_of o.column o.next)).columns) (step v (call_of o.column o.next))

homeward_runs : (n : ℕ) (v : Scene) → run v (homeward n v) ≡ home n v
homeward_runs zero v = refl
homeward_runs (suc n) v =
    run_append (made v (recall v)) (homeward n (obeyed v (recall v))) v
    ∙ ap (λ w. run w (homeward n (obeyed v (recall v)))) (made_runs v (recall v))
    ∙ homeward_runs n (obeyed v (recall v))

pub clearing_runs : (v : Scene) → run v (clearing v) ≡ cleared v
clearing_runs v =
    run_append (resting v) (Recall ∷ homeward (left (recall (settled v))) (settled v)) v
    ∙ ap (λ w. run w (homeward (left (recall (settled v))) (settled v))) (run_ticks (longest v.columns) v)
    ∙ homeward_runs (left (recall (settled v))) (settled v)

-- obeying recall as often as it says is obeying it
pub obeyed_home : (v end : Scene) (n : ℕ) → Obeyed v n end → (left (recall v) ≡ n) × (home n v ≡ end)
obeyed_home v end zero (Obeyed.done e) = (ap left e, refl)
obeyed_home v end (suc n) (Obeyed.next order e el granted rest more) = go rest (λ w. obeyed_home w end n) more
  where
    go : {w : Scene} → Rested (step v (call_of order.column order.next)) w → ((u : Scene) → Obeyed u n end → (left (recall u) ≡ n) × (home n u ≡ end))
        → Obeyed w n end → (left (recall v) ≡ suc n) × (home (suc n) v ≡ end)
    go {w} r ih ob = let here : obeyed v (recall v) ≡ w = ap (obeyed v) e ∙ rested_settled r in (ap left e ∙ el, ap (home n) here ∙ (ih w ob).1)

-- the deeds of clearing are its calls
pub calls_runs : (ks : List Call) (v : Scene) → runs v (map Deed.call ks) ≡ run v ks
calls_runs [] v = refl
calls_runs (k ∷ ks) v = calls_runs ks (step v k)
