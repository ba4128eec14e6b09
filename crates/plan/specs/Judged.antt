-- The rules as a judge meets them: each action against those above it, the sheet's end last. And that they are the same rules.
-- Assumes nothing.
use Rattle.std.specs.Prelude.{◌≡◌, ℕ, suc, ◌<◌, ◌≤◌, Bool, ◌≢◌, List, [], ◌∷◌, ◌++◌, length, take, count_by}
use Rattle.terms.specs.Durations.{SiteSettings, duration_of}
use Rattle.terms.specs.declared.work.Work.{Work}
use Rattle.terms.specs.declared.work.Work.TheVariants.{Entry, Leave}
use Rattle.ground.specs.Meaning.{Meaning}
use Rattle.plan.specs.Lines.{due}
use Rattle.plan.specs.Plan.{Action, Runs, Touches, end_column, height_at, line, makespan, runs}
use Rattle.plan.specs.Rules.{Carried, Follows, Heights, Joined, Loaded, OnScale, OneColumn, Rules}

-- a starts no earlier than the action before it
abbrev pub InOrder : List Action → Action → Type 0
InOrder above a = (k : ℕ) → suc k ≡ length above → (line above k).start ≤ a.start

-- an action above, no leave, ended at the column c before the time t, and none above starts there then
abbrev pub IsLeftStanding : List Action → ℕ → ℕ → Type 0
IsLeftStanding above t c =
    (i : ℕ) × (i < length above) × ((line above i).work ≢ Leave) × ((line above i).end < t) × (end_column (line above i) ≡ c)
    × (Carried above (line above i).end c → ⊥)

-- at some time both run, and share a column
abbrev pub Collide : Action → Action → Type 0
Collide a b = (t : ℕ) × (c : ℕ) × Runs a t × Runs b t × Touches a c × Touches b c

-- what action a keeps, with those above it
pub record Meets (m : Meaning) (s : SiteSettings) (above : List Action) (a : Action) : Type 0 where
  pub on_scale : OnScale m s a
  pub joined : Joined m a.work a.from a.to
  pub lasts : a.end ≡ due s a
  pub in_order : InOrder above a
  pub none_left : (c : ℕ) → c < m.columns → IsLeftStanding above a.start c → ⊥
  pub heights : Heights above a
  pub apart : (i : ℕ) → i < length above → Collide (line above i) a → ⊥
  pub follows : a.work ≢ Entry → Follows above (length above) a
  pub limit : count_by (runs a.start) (above ++ (a ∷ [])) ≤ s.robots

pub record Judged (m : Meaning) (s : SiteSettings) (plan : List Action) (targets : ℕ → ℕ) : Type 0 where
  pub one_column : (k : ℕ) → k < length plan → OneColumn (line plan k).work (line plan k).from (line plan k).to
  pub loaded : (k : ℕ) → k < length plan → Loaded (line plan k).work (line plan k).carry
  pub meets : (k : ℕ) → k < length plan → Meets m s (take k plan) (line plan k)
  pub carried_on : (i : ℕ) → i < length plan → (line plan i).work ≢ Leave → Carried plan (line plan i).end (end_column (line plan i))
  pub reached : (c : ℕ) → c < m.columns → height_at plan (makespan plan) c ≡ targets c

-- every work takes some time
abbrev pub Timed : SiteSettings → Type 0
Timed s = (w : Work) (b : Bool) → 1 ≤ duration_of s.times w b

abbrev pub RulesAsJudged : Type 0
RulesAsJudged = (m : Meaning) (s : SiteSettings) (plan : List Action) (targets : ℕ → ℕ) → Timed s
    → (Judged m s plan targets → Rules m s plan targets) × (Rules m s plan targets → Judged m s plan targets)
