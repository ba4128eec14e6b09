-- Lists of calls: the site after them, their answers, and what is counted over them. Assumes nothing.
use Rattle.std.specs.Prelude.{◌≡◌, ℕ, suc, ◌+◌, List, [], ◌∷◌, Some, None, Ok, Err, Option, Result}
use Rattle.terms.specs.Refusals.{Told, told_of}
use Rattle.terms.specs.declared.refusal.Refusal.{Refusal}
use Rattle.gate.specs.declared.call.Call.{Call}
use Rattle.gate.specs.declared.call.Call.TheVariants.{Enter, Move, Lay, Lift, Leave, Tick, Recall}
use Rattle.gate.specs.declared.order.Order.{Order}
use Rattle.gate.specs.Scene.{Scene, one_if, blocks_leaving}
use Rattle.gate.specs.Gate.{refusal, settle, step}
use Rattle.gate.specs.Recall.{recall, Recalled}
use Rattle.gate.specs.Words.{Performed}

-- the site after a list of calls
abbrev pub run : Scene → List Call → Scene
run v [] = v
run v (k ∷ ks) = run (step v k) ks

-- what a call answers: it is granted, refused, or names the next action
pub data Reply : Type 0 where
  granted : Reply
  refused : Told → Reply
  named : Order → Reply

abbrev pub reply_of : Result (Option Order) Refusal → Reply
reply_of (Ok None) = Reply.granted
reply_of (Ok (Some order)) = Reply.named order
reply_of (Err f) = Reply.refused (told_of f)

abbrev pub by_refusal : Option Told → Reply
by_refusal None = Reply.granted
by_refusal (Some t) = Reply.refused t

abbrev pub by_recall : Result Order Told → Reply
by_recall (Ok order) = Reply.named order
by_recall (Err t) = Reply.refused t

abbrev pub reply : Scene → Call → Reply
reply v (Enter c block) = by_refusal (refusal v (Enter c block))
reply v (Move c d) = by_refusal (refusal v (Move c d))
reply v (Lay c d) = by_refusal (refusal v (Lay c d))
reply v (Lift c d) = by_refusal (refusal v (Lift c d))
reply v (Leave c) = by_refusal (refusal v (Leave c))
reply v Tick = Reply.granted
reply v Recall = by_recall (recall v)

abbrev pub replies : Scene → List Call → List Reply
replies v [] = []
replies v (k ∷ ks) = reply v k ∷ replies (step v k) ks

-- a call, its answer and the site after it stand in the call's relation
abbrev pub Relates : Scene → Call → Reply → Scene → Type 0
Relates v (Enter c block) r w = (o : Option Told) × (r ≡ by_refusal o) × Performed v (Enter c block) o w
Relates v (Move c d) r w = (o : Option Told) × (r ≡ by_refusal o) × Performed v (Move c d) o w
Relates v (Lay c d) r w = (o : Option Told) × (r ≡ by_refusal o) × Performed v (Lay c d) o w
Relates v (Lift c d) r w = (o : Option Told) × (r ≡ by_refusal o) × Performed v (Lift c d) o w
Relates v (Leave c) r w = (o : Option Told) × (r ≡ by_refusal o) × Performed v (Leave c) o w
Relates v Tick r w = (o : Option Told) × (r ≡ by_refusal o) × Performed v Tick o w
Relates v Recall r w = (o : Result Order Told) × (r ≡ by_recall o) × Recalled v o × (w ≡ v)

-- and so does each call of a list, from site to site
abbrev pub Does : Scene → List Call → List Reply → Scene → Type 0
Does v [] [] w = w ≡ v
Does v [] (r ∷ rs) w = ⊥
Does v (k ∷ ks) [] w = ⊥
Does v (k ∷ ks) (r ∷ rs) w = (u : Scene) × Relates v k r u × Does u ks rs w

abbrev pub ticks : List Call → ℕ
ticks [] = 0
ticks (Enter c block ∷ ks) = ticks ks
ticks (Move c d ∷ ks) = ticks ks
ticks (Lay c d ∷ ks) = ticks ks
ticks (Lift c d ∷ ks) = ticks ks
ticks (Leave c ∷ ks) = ticks ks
ticks (Tick ∷ ks) = suc (ticks ks)
ticks (Recall ∷ ks) = ticks ks

-- a number counted over the granted calls of a list
abbrev pub tally : (Scene → Call → ℕ) → Scene → List Call → ℕ
tally f v [] = 0
tally f v (k ∷ ks) = settle (refusal v k) (f v k) 0 + tally f (step v k) ks

-- blocks brought in: the granted enters with one
abbrev pub brought_by : Scene → Call → ℕ
brought_by v (Enter c block) = one_if block
brought_by v (Move c d) = 0
brought_by v (Lay c d) = 0
brought_by v (Lift c d) = 0
brought_by v (Leave c) = 0
brought_by v Tick = 0
brought_by v Recall = 0

-- blocks carried out: the leaves with one that end
abbrev pub out_by : Scene → Call → ℕ
out_by v (Enter c block) = 0
out_by v (Move c d) = 0
out_by v (Lay c d) = 0
out_by v (Lift c d) = 0
out_by v (Leave c) = 0
out_by v Tick = blocks_leaving v.meaning v.columns
out_by v Recall = 0

-- granted moves and leaves
abbrev pub toil_of : Scene → Call → ℕ
toil_of v (Enter c block) = 0
toil_of v (Move c d) = 1
toil_of v (Lay c d) = 0
toil_of v (Lift c d) = 0
toil_of v (Leave c) = 1
toil_of v Tick = 0
toil_of v Recall = 0

-- granted lays and lifts
abbrev pub building_of : Scene → Call → ℕ
building_of v (Enter c block) = 0
building_of v (Move c d) = 0
building_of v (Lay c d) = 1
building_of v (Lift c d) = 1
building_of v (Leave c) = 0
building_of v Tick = 0
building_of v Recall = 0
