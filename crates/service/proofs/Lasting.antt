-- The law of durations over deeds, from that over the calls of the gate that they make. Assumes nothing.
use Rattle.std.proofs.Common.{◌≡◌, ◌-◌, List, [], ◌∷◌, ◌++◌, sym, refl, ap, ◌∙◌, subst}
use Rattle.gate.specs.declared.call.Call.TheVariants.{Tick}
use Rattle.gate.specs.declared.column.State.TheVariants.{Standing}
use Rattle.gate.specs.Scene.{Scene, height_at}
use Rattle.gate.specs.Gate.{step}
use Rattle.undertaking.specs.Runs.{run, ticks}
use Rattle.undertaking.specs.Lasting.{Ended, Is, Lasts, UnderWay, lasting}
use Rattle.service.specs.Deeds.{Deed, calls_by_all, done, runs}
use Rattle.service.specs.Lasting.{LastsThrough}
use Rattle.service.proofs.Unfolding.{run_append, runs_run}

pub runs_append : (ds es : List Deed) (v : Scene) → runs v (ds ++ es) ≡ runs (runs v ds) es
runs_append [] es v = refl
runs_append (d ∷ ds) es v = runs_append ds es (done v d)

-- one tick after the deeds is one after the calls that they make
ticked : (ds : List Deed) (v : Scene) → runs v (ds ++ Deed.call Tick ∷ []) ≡ run v (calls_by_all v ds ++ Tick ∷ [])
ticked ds v =
    runs_append ds (Deed.call Tick ∷ []) v
    ∙ ap (λ (w : Scene). step w Tick) (runs_run ds v)
    ∙ sym (run_append (calls_by_all v ds) (Tick ∷ []) v)

pub lasts_through : (v : Scene) → Lasts v → LastsThrough v
lasts_through v l =
    record {
      runs_on = λ k g more short.
          let P : Scene → Type 0 = λ w. UnderWay v.columns k w.columns (lasting v k - ticks (calls_by_all (step v k) more)) in
          subst P (sym (runs_run more (step v k))) (l.runs_on k g (calls_by_all (step v k) more) short);
      ends_so = λ k g more last.
          let P : Scene → Type 0 = λ w. Ended v.columns k w.columns in
          subst P (sym (ticked more (step v k))) (l.ends_so k g (calls_by_all (step v k) more) last);
      stands_on = λ c block e more unasked.
          let P : Scene → Type 0 = λ w. Is w.columns c (height_at v.columns c) (Standing block) in
          subst P (sym (runs_run more v)) (l.stands_on c block e (calls_by_all v more) unasked);
    }
