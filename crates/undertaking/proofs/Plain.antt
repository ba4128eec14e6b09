-- Sites by their columns alone: which columns are changing is read off the states. Assumes nothing.
use Rattle.std.proofs.Common.{◌≡◌, ℕ, zero, suc, ◌+◌, ◌<◌, ◌≤◌, true, ◌||◌, eqb, List, [], ◌∷◌, length, replicate, Some, None, Ok, Err, Option, Result}
use Rattle.terms.specs.Durations.{SiteSettings}
use Rattle.terms.specs.Refusals.{Told, told, first_of}
use Rattle.terms.specs.declared.refusal.Rule.TheVariants.{NoRobot}
use Rattle.ground.specs.Meaning.{Meaning}
use Rattle.ways.specs.Way.{Relief, Way}
use Rattle.ways.specs.Table.{steps}
use Rattle.gate.specs.declared.call.Call.{Call}
use Rattle.gate.specs.declared.call.Call.TheVariants.{Enter, Move, Lay, Lift, Leave, Tick, Recall}
use Rattle.gate.specs.declared.column.Part.{Part}
use Rattle.gate.specs.declared.column.State.TheVariants.{Busy}
use Rattle.gate.specs.declared.order.Order.{Order}
use Rattle.gate.specs.Column.{fresh, other, facing, changes}
use Rattle.gate.specs.Scene.{Columns, height_at, state_at, tick_all, lying, robots, one_if, blocks_leaving}
use Rattle.gate.specs.Gate.{Test, granted, settle}
use Rattle.gate.specs.Gate.{tests as gate_tests}
use Rattle.gate.specs.Recall.{robot_steps as gate_steps, toll as gate_toll, recalled as gate_recalled}
use Rattle.undertaking.specs.Obeying.{Robot, call_of}
use Rattle.gate.specs.Time.{Quiet}

-- settings as they are made
pub record Proper (s : SiteSettings) : Type 0 where
  pub levels : 1 ≤ s.levels
  pub few_levels : s.levels ≤ 16
  pub entry : 1 ≤ s.times.entry
  pub leave : 1 ≤ s.times.leave
  pub loaded : 1 ≤ s.times.loaded
  pub empty : 1 ≤ s.times.empty
  pub pickup : 1 ≤ s.times.pickup
  pub deliver : 1 ≤ s.times.deliver

abbrev pub opening : Meaning → Columns
opening m = replicate m.columns fresh

abbrev pub after_ticks : ℕ → Columns → Columns
after_ticks zero xs = xs
after_ticks (suc n) xs = after_ticks n (tick_all xs)

abbrev pub relief : Columns → Relief
relief xs = lying xs (λ c. changes (state_at xs c))

abbrev pub tried : Columns → ℕ → Relief
tried xs d = lying xs (λ c. eqb c d || changes (state_at xs c))

abbrev pub tests : Meaning → SiteSettings → Columns → Call → List Test
tests m s xs k = gate_tests m s xs (tried xs) k

abbrev pub answer : Meaning → SiteSettings → Columns → Call → Option Told
answer m s xs k = first_of (tests m s xs k)

abbrev pub step : Meaning → SiteSettings → Columns → Call → Columns
step m s xs k = settle (answer m s xs k) (granted s xs k) xs

abbrev pub run : Meaning → SiteSettings → Columns → List Call → Columns
run m s xs [] = xs
run m s xs (k ∷ ks) = run m s (step m s xs k) ks

abbrev pub tally : (Columns → Call → ℕ) → Meaning → SiteSettings → Columns → List Call → ℕ
tally f m s xs [] = 0
tally f m s xs (k ∷ ks) = settle (answer m s xs k) (f xs k) 0 + tally f m s (step m s xs k) ks

abbrev pub robot_steps : Meaning → Columns → ℕ → Option ℕ
robot_steps m xs c = gate_steps xs (steps m (relief xs)) c

abbrev pub toll : Meaning → Columns → ℕ
toll m xs = gate_toll m xs (steps m (relief xs))

abbrev pub recalled : Meaning → Columns → Result Order Told
recalled m xs = gate_recalled m xs (steps m (relief xs))

-- what is sound of a site
pub record Sound (m : Meaning) (s : SiteSettings) (xs : Columns) : Type 0 where
  pub long : length xs ≡ m.columns
  pub low : (c : ℕ) → height_at xs c < s.levels
  pub border_flat : (c : ℕ) → m.border c ≡ true → height_at xs c ≡ 0
  pub time_left : (c : ℕ) (p : Part) (n : ℕ) → state_at xs c ≡ Busy p n → 1 ≤ n
  pub partners : (c d : ℕ) (p : Part) (n : ℕ) → state_at xs c ≡ Busy p n → other p ≡ Some d → state_at xs d ≡ Busy (facing c p) n
  pub ways_home : (c : ℕ) → Robot xs c → (n : ℕ) × Way m (relief xs) c n
  pub not_full : robots m xs ≤ s.robots

pub data Rested : Columns → Columns → Type 0 where
  quiet : {xs : Columns} → Quiet xs → Rested xs xs
  tick : {xs ys : Columns} → (Quiet xs → ⊥) → Rested (tick_all xs) ys → Rested xs ys

pub data Obeyed (m : Meaning) (s : SiteSettings) : Columns → ℕ → Columns → Type 0 where
  done : {xs : Columns} → recalled m xs ≡ Err (told NoRobot 0 0) → Obeyed m s xs 0 xs
  next : {xs ys zs : Columns} {n : ℕ} (order : Order) → recalled m xs ≡ Ok order → order.left ≡ suc n → answer m s xs (call_of order.column order.next) ≡ None
      → Rested (step m s xs (call_of order.column order.next)) ys → Obeyed m s ys n zs → Obeyed m s xs (suc n) zs

abbrev pub brought_by : Columns → Call → ℕ
brought_by xs (Enter c block) = one_if block
brought_by xs (Move c d) = 0
brought_by xs (Lay c d) = 0
brought_by xs (Lift c d) = 0
brought_by xs (Leave c) = 0
brought_by xs Tick = 0
brought_by xs Recall = 0

abbrev pub out_by : Meaning → Columns → Call → ℕ
out_by m xs (Enter c block) = 0
out_by m xs (Move c d) = 0
out_by m xs (Lay c d) = 0
out_by m xs (Lift c d) = 0
out_by m xs (Leave c) = 0
out_by m xs Tick = blocks_leaving m xs
out_by m xs Recall = 0

abbrev pub toil_of : Columns → Call → ℕ
toil_of xs (Enter c block) = 0
toil_of xs (Move c d) = 1
toil_of xs (Lay c d) = 0
toil_of xs (Lift c d) = 0
toil_of xs (Leave c) = 1
toil_of xs Tick = 0
toil_of xs Recall = 0

abbrev pub building_of : Columns → Call → ℕ
building_of xs (Enter c block) = 0
building_of xs (Move c d) = 0
building_of xs (Lay c d) = 1
building_of xs (Lift c d) = 1
building_of xs (Leave c) = 0
building_of xs Tick = 0
building_of xs Recall = 0
