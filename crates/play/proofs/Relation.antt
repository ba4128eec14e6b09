-- Play by its definition is play by its relation, whatever the actions. Assumes nothing.
use Rattle.std.proofs.Common.{◌≡◌, ℕ, List, [], ◌∷◌, Some, None, Option, refl}
use Rattle.terms.specs.Refusals.{Told}
use Rattle.gate.specs.declared.call.Call.{Call}
use Rattle.gate.specs.Gate.{grant, refusal, settle}
use Rattle.gate.specs.Scene.{Scene}
use Rattle.gate.specs.Time.{longest}
use Rattle.gate.proofs.Waiting.{settles_so}
use Rattle.plan.specs.Plan.{Action}
use Rattle.play.specs.Play.{Outcome, Played, call_of, called, play, ready, refusal_of, unless}
use Rattle.play.specs.Play.Played.{ended, granted, stopped, waited}

abbrev Says : List Action → ℕ → Scene → Outcome → Type 0
Says actions now v o = Played actions now v o.answer o.site

abbrev SaysFrom : List Action → ℕ → Type 0
SaysFrom actions now = (v : Scene) → Says actions now v (play actions now v)

pub played_so : (actions : List Action) (now : ℕ) (v : Scene) → Says actions now v (play actions now v)
played_so [] now v = ended {n = longest v.columns} (settles_so v).quiet (settles_so v).no_sooner
played_so (a ∷ rest) now v = go (λ w. played_so rest a.start w) (call_of a) refl
  where
    made : SaysFrom rest a.start → (k : Call) → call_of a ≡ Some k → (o : Option Told) → refusal (ready a now v) k ≡ o
        → Says (a ∷ rest) now v (unless o a.line (ready a now v) (play rest a.start (settle o (grant (ready a now v) k) (ready a now v))))
    made ih k e None f = granted e f (ih (grant (ready a now v) k))
    made ih k e (Some t) f = stopped e f

    go : SaysFrom rest a.start → (o : Option Call) → call_of a ≡ o
        → Says (a ∷ rest) now v (unless (refusal_of (ready a now v) o) a.line (ready a now v) (play rest a.start (called (ready a now v) o)))
    go ih None e = waited e (ih (ready a now v))
    go ih (Some k) e = made ih k e (refusal (ready a now v) k) refl
