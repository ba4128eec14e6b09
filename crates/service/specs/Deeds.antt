-- The eight calls: the seven of the gate, and playing a list of actions; the site after them, their answers, and the calls of the
-- gate that they make. Assumes nothing.
use Rattle.std.specs.Prelude.{◌≡◌, ℕ, ◌-◌, cond, List, [], ◌∷◌, ◌++◌, replicate, Some, None, Option}
use Rattle.terms.specs.Refusals.{Told, told}
use Rattle.terms.specs.declared.refusal.Rule.TheVariants.{NotFresh}
use Rattle.gate.specs.declared.call.Call.{Call}
use Rattle.gate.specs.declared.call.Call.TheVariants.{Tick}
use Rattle.gate.specs.Scene.{Scene}
use Rattle.gate.specs.Gate.{step}
use Rattle.undertaking.specs.Runs.{Reply, Relates, by_refusal, reply}
use Rattle.plan.specs.Plan.{Action}
use Rattle.play.specs.Play.{Fresh, Played, call_of, called, is_fresh, play_on, ready, refusal_of}
use Rattle.gate.specs.Time.{longest}

-- a call of the gate, or the playing of any actions: accepted for this site, for another, or for none
pub data Deed : Type 0 where
  call : Call → Deed
  plays : List Action → Deed

-- the site after a deed, and its answer; a play that nothing stops is granted
abbrev pub done : Scene → Deed → Scene
done v (Deed.call k) = step v k
done v (Deed.plays actions) = (play_on actions v).site

abbrev pub reply_to : Scene → Deed → Reply
reply_to v (Deed.call k) = reply v k
reply_to v (Deed.plays actions) = by_refusal (play_on actions v).answer

abbrev pub runs : Scene → List Deed → Scene
runs v [] = v
runs v (d ∷ ds) = runs (done v d) ds

abbrev pub replies_to : Scene → List Deed → List Reply
replies_to v [] = []
replies_to v (d ∷ ds) = reply_to v d ∷ replies_to (done v d) ds

-- a deed, its answer and the site after it stand in the deed's relation
abbrev pub DeedRelates : Scene → Deed → Reply → Scene → Type 0
DeedRelates v (Deed.call k) r w = Relates v k r w
DeedRelates v (Deed.plays actions) r w =
    (Fresh v → (o : Option Told) × (r ≡ by_refusal o) × Played actions 0 v o w)
    × ((Fresh v → ⊥) → (r ≡ Reply.refused (told NotFresh 0 0)) × (w ≡ v))

-- and so does each deed of a list, from site to site
abbrev pub AllRelate : Scene → List Deed → List Reply → Scene → Type 0
AllRelate v [] [] w = w ≡ v
AllRelate v [] (r ∷ rs) w = ⊥
AllRelate v (d ∷ ds) [] w = ⊥
AllRelate v (d ∷ ds) (r ∷ rs) w = (u : Scene) × DeedRelates v d r u × AllRelate u ds rs w

abbrev pub if_made : Option Call → List Call
if_made None = []
if_made (Some k) = k ∷ []

abbrev pub unless_refused : Option Told → List Call → List Call
unless_refused None ks = ks
unless_refused (Some t) ks = []

-- the calls that playing makes: ticks until the start of each action, its call, none after one that is refused; at the end, ticks
-- until nothing runs
abbrev pub plan_calls : List Action → ℕ → Scene → List Call
plan_calls [] now v = replicate (longest v.columns) Tick
plan_calls (a ∷ rest) now v =
    replicate (a.start - now) Tick
    ++ (if_made (call_of a)
    ++ unless_refused (refusal_of (ready a now v) (call_of a)) (plan_calls rest a.start (called (ready a now v) (call_of a))))

-- the calls of the gate that a deed makes
abbrev pub calls_by : Scene → Deed → List Call
calls_by v (Deed.call k) = k ∷ []
calls_by v (Deed.plays actions) = cond (is_fresh v) (plan_calls actions 0 v) []

abbrev pub calls_by_all : Scene → List Deed → List Call
calls_by_all v [] = []
calls_by_all v (d ∷ ds) = calls_by v d ++ calls_by_all (done v d) ds
