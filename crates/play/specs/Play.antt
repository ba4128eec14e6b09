-- Playing a list of actions: by the gate's own definitions, and as a relation. Assumes nothing.
use Rattle.std.specs.Prelude.{◌≡◌, ℕ, ◌-◌, ◌<◌, Bool, false, cond, ◌&&◌, List, [], ◌∷◌, length, Some, None, Option, ◌==◌, slice_index}
use Rattle.terms.specs.Refusals.{Told, told}
use Rattle.terms.specs.declared.refusal.Rule.TheVariants.{NotFresh}
use Rattle.terms.specs.declared.work.Work.{Work}
use Rattle.terms.specs.declared.work.Work.TheVariants.{Entry, Leave as LeaveWork, Wait, Move as MoveWork, PickUp, Deliver}
use Rattle.gate.specs.declared.call.Call.{Call}
use Rattle.gate.specs.declared.call.Call.TheVariants.{Enter, Move, Lay, Lift, Leave}
use Rattle.gate.specs.declared.column.State.TheVariants.{Free}
use Rattle.gate.specs.Column.{robot}
use Rattle.gate.specs.Scene.{Scene, blocks_standing, height_at, robots, state_at}
use Rattle.gate.specs.Gate.{grant, refusal, step}
use Rattle.gate.specs.Time.{Quiet, after_ticks, settled}
use Rattle.plan.specs.Plan.{Action}

-- the call that a work names, from a column f, with another column o, of a robot with or without a block; a wait names none
abbrev pub call_for : Work → ℕ → ℕ → Bool → Option Call
call_for Entry f o block = Some (Enter f block)
call_for LeaveWork f o block = Some (Leave f)
call_for Wait f o block = None
call_for MoveWork f o block = Some (Move f o)
call_for PickUp f o block = Some (Lift f o)
call_for Deliver f o block = Some (Lay f o)

abbrev pub call_of : Action → Option Call
call_of a = call_for a.work a.from a.to a.carry

-- the gate's answer to a call, if one is made, and the site after it
abbrev pub refusal_of : Scene → Option Call → Option Told
refusal_of v None = None
refusal_of v (Some k) = refusal v k

abbrev pub called : Scene → Option Call → Scene
called v None = v
called v (Some k) = step v k

-- what play answers, a refusal or none, and the site that it leaves
pub record Outcome : Type 0 where
  pub answer : Option Told
  pub site : Scene

-- a refusal, told of a line
abbrev pub on_line : ℕ → Told → Told
on_line line t = record { number = t.number; layer = t.layer; line = line; detail = t.detail }

-- a call that is refused stops play, the site as it was
abbrev pub unless : Option Told → ℕ → Scene → Outcome → Outcome
unless None line v on = on
unless (Some t) line v on = record { answer = Some (on_line line t); site = v }

-- the site at the start of an action, where the time is now
abbrev pub ready : Action → ℕ → Scene → Scene
ready a now v = after_ticks (a.start - now) v

-- actions in order, the time counted from where play began: tick until the start, make the call; at the end, tick until nothing
-- runs
abbrev pub play : List Action → ℕ → Scene → Outcome
play [] now v = record { answer = None; site = settled v }
play (a ∷ rest) now v =
    unless (refusal_of (ready a now v) (call_of a)) a.line (ready a now v) (play rest a.start (called (ready a now v) (call_of a)))

-- the same as a relation of the actions, the time, the site before, the answer and the site after
pub data Played : List Action → ℕ → Scene → Option Told → Scene → Type 0 where
  ended : {now n : ℕ} {v : Scene} → Quiet (after_ticks n v).columns → ((k : ℕ) → k < n → Quiet (after_ticks k v).columns → ⊥)
      → Played [] now v None (after_ticks n v)
  stopped : {a : Action} {rest : List Action} {now : ℕ} {v : Scene} {k : Call} {t : Told}
      → call_of a ≡ Some k → refusal (ready a now v) k ≡ Some t
      → Played (a ∷ rest) now v (Some (record { number = t.number; layer = t.layer; line = a.line; detail = t.detail })) (ready a now v)
  granted : {a : Action} {rest : List Action} {now : ℕ} {v w : Scene} {k : Call} {answer : Option Told}
      → call_of a ≡ Some k → refusal (ready a now v) k ≡ None → Played rest a.start (grant (ready a now v) k) answer w
      → Played (a ∷ rest) now v answer w
  waited : {a : Action} {rest : List Action} {now : ℕ} {v w : Scene} {answer : Option Told}
      → call_of a ≡ None → Played rest a.start (ready a now v) answer w → Played (a ∷ rest) now v answer w

-- a site as it opens: as many columns as the ground has, each free and at height 0, and nothing changing
pub record Blank (v : Scene) : Type 0 where
  pub size : length v.columns ≡ v.meaning.columns
  pub free : (c : ℕ) → state_at v.columns c ≡ Free
  pub flat : (c : ℕ) → height_at v.columns c ≡ 0
  pub room : length v.marks ≡ 256
  pub unmarked : (c : ℕ) → slice_index v.marks c ≡ 0

-- fresh: no robot is on the site, and every height is 0
abbrev pub is_fresh : Scene → Bool
is_fresh v = robots v.meaning v.columns == 0 && blocks_standing v.meaning v.columns == 0

pub record Fresh (v : Scene) : Type 0 where
  pub no_robot : (c : ℕ) → c < v.meaning.columns → robot (state_at v.columns c) ≡ false
  pub flat : (c : ℕ) → c < v.meaning.columns → height_at v.columns c ≡ 0

-- play as it is called: only a fresh site is played on, any other stays as it is
abbrev pub play_on : List Action → Scene → Outcome
play_on actions v = cond (is_fresh v) (play actions 0 v) (record { answer = Some (told NotFresh 0 0); site = v })
