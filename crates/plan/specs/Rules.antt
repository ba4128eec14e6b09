-- The rules that a plan keeps, each in words of all its actions, and what marks and carry a line may have. Assumes nothing.
use Rattle.std.specs.Prelude.{◌≡◌, ℕ, suc, ◌+◌, ◌<◌, ◌≤◌, Bool, true, false, cond, ◌≢◌, ◌⊎◌, List, [], ◌∷◌, map, length, count_by, ◌==◌, slice_index_or}
use Rattle.terms.specs.Durations.{SiteSettings, Takes}
use Rattle.terms.specs.declared.work.Work.{Work}
use Rattle.terms.specs.declared.work.Work.TheVariants.{Entry, Leave, Wait, Move, PickUp, Deliver}
use Rattle.ground.specs.Meaning.{Meaning}
use Rattle.sheet.specs.View.{Records}
use Rattle.sheet.specs.declared.record.ActLine.{ActLine}
use Rattle.sheet.specs.declared.record.Letter.{Letter}
use Rattle.sheet.specs.declared.record.Letter.TheVariants.{M, P, D}
use Rattle.sheet.specs.declared.record.Place.TheVariants.{Outside}
use Rattle.sheet.specs.declared.target.Target.{Target}
use Rattle.plan.specs.Lines.{written_action, due, marked}
use Rattle.plan.specs.Plan.{Action, Ends, Runs, Starts, Touches, carry_after, end_column, height_at, line, runs}
use Rattle.plan.specs.Stands.{StandsFor}
use Rattle.plan.specs.Tests.{TestsOf}

-- marks stand only with M; P is empty-handed, D has a block
abbrev pub Suited : Letter → Bool → Bool → Bool → Type 0
Suited M enters leaves carry = Unit {0}
Suited P enters leaves carry = (enters ≡ false) × ((leaves ≡ false) × (carry ≡ false))
Suited D enters leaves carry = (enters ≡ false) × ((leaves ≡ false) × (carry ≡ true))

-- S and E fill both fields of their side, and never stand together
pub record Marks (l : ActLine) : Type 0 where
  pub from_whole : marked l.from.column ≡ marked l.from.height
  pub to_whole : marked l.to.column ≡ marked l.to.height
  pub one_side : marked l.from.column ≡ true → marked l.to.column ≢ true
  pub suited : Suited l.letter (marked l.from.column) (marked l.to.column) l.carry

-- the target of a column, 0 where none is named
abbrev pub target_of : List Target → ℕ → ℕ
target_of [] c = 0
target_of (t ∷ ts) c = cond (t.column == c) t.height (target_of ts c)

abbrev pub no_target : Target
no_target = record { column = 0; height = 0 }

-- the height of the first target that names the column; 0 where none does
pub data IsTarget (ts : List Target) (c : ℕ) : ℕ → Type 0 where
  named : (i : ℕ) → i < length ts → (slice_index_or ts i no_target).column ≡ c → ((j : ℕ) → j < i → (slice_index_or ts j no_target).column ≢ c)
      → IsTarget ts c (slice_index_or ts i no_target).height
  unnamed : ((i : ℕ) → i < length ts → (slice_index_or ts i no_target).column ≢ c) → IsTarget ts c 0

-- what judging takes a well marked line for is what the line stands for, and its tests of an action are what they are said to be
pub record LinesStand : Type 0 where
  pub stands : (l : ActLine) → Marks l → StandsFor l (written_action l)
  pub tests : (a : Action) → TestsOf a
  pub targets : (ts : List Target) (c : ℕ) → IsTarget ts c (target_of ts c)
  pub ends_when_done : (s : SiteSettings) (a : Action) → (n : ℕ) × Takes s.times a.work a.carry n × (due s a ≡ a.start + n)

-- an entry, a leave and a wait have one column
abbrev pub OneColumn : Work → ℕ → ℕ → Type 0
OneColumn Entry f o = o ≡ f
OneColumn Leave f o = o ≡ f
OneColumn Wait f o = o ≡ f
OneColumn Move f o = Unit {0}
OneColumn PickUp f o = Unit {0}
OneColumn Deliver f o = Unit {0}

-- a robot picks up empty-handed and delivers a block
abbrev pub Loaded : Work → Bool → Type 0
Loaded Entry block = Unit {0}
Loaded Leave block = Unit {0}
Loaded Wait block = Unit {0}
Loaded Move block = Unit {0}
Loaded PickUp block = block ≡ false
Loaded Deliver block = block ≡ true

-- a height is below the levels, and so is one more where a robot picks up or delivers
pub record LevelFits (s : SiteSettings) (w : Work) (h : ℕ) : Type 0 where
  pub level : h < s.levels
  pub room : (w ≡ PickUp) ⊎ (w ≡ Deliver) → suc h < s.levels

-- the columns are on the ground, and their heights fit
pub record OnScale (m : Meaning) (s : SiteSettings) (a : Action) : Type 0 where
  pub from_ground : a.from < m.columns
  pub from_level : LevelFits s a.work a.from_height
  pub to_ground : a.to < m.columns
  pub to_level : LevelFits s a.work a.to_height

-- entry and leave at the border; move, pick up and deliver along a link; no block is taken from or put on a border column
abbrev pub Joined : Meaning → Work → ℕ → ℕ → Type 0
Joined m Entry f o = m.border f ≡ true
Joined m Leave f o = m.border f ≡ true
Joined m Wait f o = Unit {0}
Joined m Move f o = m.linked f o ≡ true
Joined m PickUp f o = (m.linked f o ≡ true) × (m.border o ≡ false)
Joined m Deliver f o = (m.linked f o ≡ true) × (m.border o ≡ false)

-- the heights h and k that are written for from and to, where the columns are f and o high: a robot moves up or down by one
-- at most, and delivers to, or picks up from above, its own height
abbrev pub Written : Work → ℕ → ℕ → ℕ → ℕ → Type 0
Written Entry h k f o = k ≡ o
Written Leave h k f o = h ≡ f
Written Wait h k f o = (h ≡ f) × (k ≡ o)
Written Move h k f o = (h ≡ f) × ((k ≡ o) × ((k ≤ suc h) × (h ≤ suc k)))
Written PickUp h k f o = (h ≡ f) × ((suc k ≡ o) × (h ≡ k))
Written Deliver h k f o = (h ≡ f) × ((k ≡ o) × (h ≡ k))

-- what is written on an action is how high its columns are at its start, by the plan
abbrev pub Heights : List Action → Action → Type 0
Heights plan a = Written a.work a.from_height a.to_height (height_at plan a.start a.from) (height_at plan a.start a.to)

-- some action of the plan starts at the time t from the column c
abbrev pub Carried : List Action → ℕ → ℕ → Type 0
Carried plan t c = (j : ℕ) × (j < length plan) × Starts (line plan j) t c

-- one of the first n actions ends where and when a starts, with the same carry
abbrev pub Follows : List Action → ℕ → Action → Type 0
Follows plan n a = (j : ℕ) × (j < n) × Ends (line plan j) a.start a.from × (carry_after (line plan j) ≡ a.carry)

pub record Rules (m : Meaning) (s : SiteSettings) (plan : List Action) (targets : ℕ → ℕ) : Type 0 where
  pub one_column : (i : ℕ) → i < length plan → OneColumn (line plan i).work (line plan i).from (line plan i).to
  pub loaded : (i : ℕ) → i < length plan → Loaded (line plan i).work (line plan i).carry
  pub on_scale : (i : ℕ) → i < length plan → OnScale m s (line plan i)
  pub joined : (i : ℕ) → i < length plan → Joined m (line plan i).work (line plan i).from (line plan i).to
  -- an action ends when its work is done
  pub lasts : (i : ℕ) → i < length plan → (line plan i).end ≡ due s (line plan i)
  -- starts never fall
  pub in_order : (i j : ℕ) → i ≤ j → j < length plan → (line plan i).start ≤ (line plan j).start
  -- no robot is left standing
  pub carried_on : (i : ℕ) → i < length plan → (line plan i).work ≢ Leave → Carried plan (line plan i).end (end_column (line plan i))
  pub heights : (i : ℕ) → i < length plan → Heights plan (line plan i)
  -- actions that run at one time share no column
  pub zones : (i j t c : ℕ) → i < length plan → j < length plan → Runs (line plan i) t → Runs (line plan j) t
      → Touches (line plan i) c → Touches (line plan j) c → i ≡ j
  -- an action that is no entry goes on where one above ended
  pub follows : (i : ℕ) → i < length plan → (line plan i).work ≢ Entry → Follows plan i (line plan i)
  -- at no time more than the most robots
  pub limit : (t : ℕ) → count_by (runs t) plan ≤ s.robots
  -- when all has ended, the heights are the targets
  pub reached : (c t : ℕ) → c < m.columns → ((i : ℕ) → i < length plan → (line plan i).end ≤ t) → height_at plan t c ≡ targets c

abbrev pub no_act : ActLine
no_act =
    record {
      line = 0;
      start = 0;
      end = 0;
      from = record { column = Outside; height = Outside };
      carry = false;
      letter = M;
      to = record { column = Outside; height = Outside };
    }

-- ACT line i as it is written, counted from 0; the actions that the lines stand for
abbrev pub written : List ActLine → ℕ → ActLine
written acts i = slice_index_or acts i no_act

abbrev pub written_plan : List ActLine → List Action
written_plan acts = map written_action acts

-- the rules of a sheet that reads: how its lines are written, and what they stand for
pub record SheetRules (m : Meaning) (s : SiteSettings) (r : Records) : Type 0 where
  pub marks : (i : ℕ) → i < length r.acts → Marks (written r.acts i)
  pub stands : (i : ℕ) → i < length r.acts → StandsFor (written r.acts i) (line (written_plan r.acts) i)
  pub rules : Rules m s (written_plan r.acts) (target_of r.targets)
