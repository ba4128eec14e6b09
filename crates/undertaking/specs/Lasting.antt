-- The law of durations: what a granted call does until its last tick, and at it, whatever calls come between. Assumes nothing.
use Rattle.std.specs.Prelude.{◌≡◌, ℕ, suc, ◌-◌, ◌<◌, Bool, true, false, ◌⊎◌, List, [], ◌∷◌, ◌++◌, None}
use Rattle.gate.specs.declared.call.Call.{Call}
use Rattle.gate.specs.declared.call.Call.TheVariants.{Enter, Move, Lay, Lift, Leave, Tick, Recall}
use Rattle.gate.specs.declared.column.Part.TheVariants.{Entering, Leaving, Departing, Arriving, Laying, Rising, Lifting, Sinking}
use Rattle.gate.specs.declared.column.State.{State}
use Rattle.gate.specs.declared.column.State.TheVariants.{Free, Standing, Busy}
use Rattle.gate.specs.Column.{carries}
use Rattle.gate.specs.Scene.{Columns, Scene, height_at, state_at}
use Rattle.gate.specs.Gate.{refusal, duration, step}
use Rattle.undertaking.specs.Runs.{run, ticks}

-- column c has its height h and is in a state
pub record Is (xs : Columns) (c h : ℕ) (t : State) : Type 0 where
  pub state : state_at xs c ≡ t
  pub height : height_at xs c ≡ h

-- with n ticks left the action of a call that xs granted still runs in ys: its columns are held, at their heights
abbrev pub UnderWay : Columns → Call → Columns → ℕ → Type 0
UnderWay xs (Enter c block) ys n = Is ys c (height_at xs c) (Busy (Entering block) n)
UnderWay xs (Move c d) ys n =
    Is ys c (height_at xs c) (Busy (Departing (carries (state_at xs c)) d) n) × Is ys d (height_at xs d) (Busy (Arriving (carries (state_at xs c)) c) n)
UnderWay xs (Lay c d) ys n = Is ys c (height_at xs c) (Busy (Laying d) n) × Is ys d (height_at xs d) (Busy (Rising c) n)
UnderWay xs (Lift c d) ys n = Is ys c (height_at xs c) (Busy (Lifting d) n) × Is ys d (height_at xs d) (Busy (Sinking c) n)
UnderWay xs (Leave c) ys n = Is ys c (height_at xs c) (Busy (Leaving (carries (state_at xs c))) n)
UnderWay xs Tick ys n = Unit {0}
UnderWay xs Recall ys n = Unit {0}

-- it has ended in ys as the call says
abbrev pub Ended : Columns → Call → Columns → Type 0
Ended xs (Enter c block) ys = Is ys c (height_at xs c) (Standing block)
Ended xs (Move c d) ys = Is ys c (height_at xs c) Free × Is ys d (height_at xs d) (Standing (carries (state_at xs c)))
Ended xs (Lay c d) ys = Is ys c (height_at xs c) (Standing false) × Is ys d (suc (height_at xs d)) Free
Ended xs (Lift c d) ys = Is ys c (height_at xs c) (Standing true) × ((h : ℕ) × (height_at xs d ≡ suc h) × Is ys d h Free)
Ended xs (Leave c) ys = Is ys c (height_at xs c) Free
Ended xs Tick ys = Unit {0}
Ended xs Recall ys = Unit {0}

-- the call is about the robot at c
abbrev pub About : ℕ → Call → Type 0
About c (Enter e block) = e ≡ c
About c (Move e d) = e ≡ c
About c (Lay e d) = e ≡ c
About c (Lift e d) = e ≡ c
About c (Leave e) = e ≡ c
About c Tick = ⊥
About c Recall = ⊥

-- no call of the list that is about c is granted
abbrev pub Unasked : ℕ → Scene → List Call → Type 0
Unasked c v [] = Unit {0}
Unasked c v (k ∷ ks) = (refusal v k ≡ None → About c k → ⊥) × Unasked c (step v k) ks

-- a tick ends a lay or a lift on column c: it is one higher, or one lower
pub record Builds (v : Scene) (c : ℕ) (k : Call) : Type 0 where
  pub at_tick : k ≡ Tick
  pub from : ℕ
  pub how : ((state_at v.columns c ≡ Busy (Rising from) 1) × (height_at (step v k).columns c ≡ suc (height_at v.columns c)))
      ⊎ ((state_at v.columns c ≡ Busy (Sinking from) 1) × (suc (height_at (step v k).columns c) ≡ height_at v.columns c))

-- whether the robot that the call is about has a block
abbrev pub with_block : Scene → Call → Bool
with_block v (Enter c block) = block
with_block v (Move c d) = carries (state_at v.columns c)
with_block v (Lay c d) = carries (state_at v.columns c)
with_block v (Lift c d) = carries (state_at v.columns c)
with_block v (Leave c) = carries (state_at v.columns c)
with_block v Tick = false
with_block v Recall = false

-- how long the action of a call takes
abbrev pub lasting : Scene → Call → ℕ
lasting v k = duration v.settings k (with_block v k)

-- the time of a granted call is that of its work; of a move by whether the robot stands there with a block
abbrev pub Takes : Scene → Call → ℕ → Type 0
Takes v (Enter c block) n = n ≡ v.settings.times.entry
Takes v (Move c d) n =
    ((state_at v.columns c ≡ Standing true) × (n ≡ v.settings.times.loaded))
    ⊎ ((state_at v.columns c ≡ Standing false) × (n ≡ v.settings.times.empty))
Takes v (Lay c d) n = n ≡ v.settings.times.deliver
Takes v (Lift c d) n = n ≡ v.settings.times.pickup
Takes v (Leave c) n = n ≡ v.settings.times.leave
Takes v Tick n = Unit {0}
Takes v Recall n = Unit {0}

-- of a site and all that may be called from it
pub record Lasts (v : Scene) : Type 0 where
  pub takes : (k : Call) → refusal v k ≡ None → Takes v k (lasting v k)
  pub runs_on : (k : Call) → refusal v k ≡ None → (ks : List Call) → ticks ks < lasting v k
      → UnderWay v.columns k (run (step v k) ks).columns (lasting v k - ticks ks)
  pub ends_so : (k : Call) → refusal v k ≡ None → (ks : List Call) → suc (ticks ks) ≡ lasting v k
      → Ended v.columns k (run (step v k) (ks ++ Tick ∷ [])).columns
  pub stands_on : (c : ℕ) (block : Bool) → state_at v.columns c ≡ Standing block → (ks : List Call) → Unasked c v ks
      → Is (run v ks).columns c (height_at v.columns c) (Standing block)
  pub builds_only : (k : Call) (c : ℕ) → (height_at (step v k).columns c ≡ height_at v.columns c) ⊎ Builds v c k
