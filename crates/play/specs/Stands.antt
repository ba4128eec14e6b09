-- What comes of playing a plan that keeps the rules, on a site as it opens. Assumes nothing.
use Rattle.std.specs.Prelude.{◌≡◌, ℕ, ◌<◌, ◌≤◌, List, Some, None, Decides}
use Rattle.terms.specs.Durations.{SiteSettings}
use Rattle.terms.specs.Refusals.{told}
use Rattle.terms.specs.declared.refusal.Rule.TheVariants.{NoWayHome, NotFresh}
use Rattle.ground.specs.Meaning.{Lawful, Meaning}
use Rattle.gate.specs.declared.column.State.TheVariants.{Free}
use Rattle.gate.specs.Scene.{Scene, height_at, opened, state_at}
use Rattle.plan.specs.Judged.{Timed}
use Rattle.plan.specs.Plan.{Action, line}
use Rattle.plan.specs.Rules.{Rules}
use Rattle.gate.specs.Time.{Settles}
use Rattle.play.specs.Play.{Blank, Fresh, Outcome, Played, is_fresh, play, play_on}
use Rattle.play.specs.Shown.{Described}
use Rattle.play.specs.Strands.{Strands, StrandsLowest}

-- it stops at the first action that strands a robot, with that refusal, the action's line and the lowest column, the site as the
-- actions above describe it at its start; or, where there is none, it ends with every column free and the heights at their targets
pub data Comes (m : Meaning) (s : SiteSettings) (plan : List Action) (targets : ℕ → ℕ) : Outcome → Type 0 where
  stops : (i c : ℕ) (v : Scene) → StrandsLowest m plan i c → ((j d : ℕ) → j < i → Strands m plan j d → ⊥)
      → Described m s plan i (line plan i).start v
      → Comes m s plan targets (record { answer = Some (told NoWayHome (line plan i).line c); site = v })
  ends : (v : Scene) → ((j d : ℕ) → Strands m plan j d → ⊥)
      → ((c : ℕ) → state_at v.columns c ≡ Free) → ((c : ℕ) → c < m.columns → height_at v.columns c ≡ targets c)
      → Comes m s plan targets (record { answer = None; site = v })

-- settings under which every work takes some time, and a byte holds every height
pub record Usable (s : SiteSettings) : Type 0 where
  pub timed : Timed s
  pub low : s.levels ≤ 256

pub record PlaysStand : Type 0 where
  -- a site opens blank
  pub opens_blank : (m : Meaning) (s : SiteSettings) → Blank (opened m s)
  -- the test for a fresh site says what fresh means
  pub fresh_words : (v : Scene) → Decides (is_fresh v) (Fresh v)
  -- on a fresh site play begins at time 0, and any other stays as it is, refused with 33
  pub on_fresh : (actions : List Action) (v : Scene) → Fresh v → play_on actions v ≡ play actions 0 v
  pub on_other : (actions : List Action) (v : Scene) → (Fresh v → ⊥)
      → play_on actions v ≡ record { answer = Some (told NotFresh 0 0); site = v }
  -- ticking until nothing runs ends
  pub settles : (v : Scene) → Settles v
  -- play is what its relation says, of every list of actions
  pub played : (actions : List Action) (now : ℕ) (v : Scene)
      → Played actions now v (play actions now v).answer (play actions now v).site
  -- and this comes of a plan that keeps the rules
  pub comes : (v : Scene) (plan : List Action) (targets : ℕ → ℕ) → Lawful v.meaning → Usable v.settings → Rules v.meaning v.settings plan targets
      → Blank v → Comes v.meaning v.settings plan targets (play plan 0 v)
