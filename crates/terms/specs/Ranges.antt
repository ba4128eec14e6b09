-- Which numbers settings can be made of. Assumes nothing.
use Rattle.std.specs.Prelude.{◌≡◌, ℕ, ◌≤◌, Bool, not, ◌&&◌, List, [], ◌∷◌, Option, nat_le}
use Rattle.std.specs.Option.{unwrap_or}
use Rattle.terms.specs.declared.refusal.Rule.TheVariants.{SettingsRange}
use Rattle.terms.specs.Durations.{IsSet, SiteSettings, duration_set, times}
use Rattle.terms.specs.Refusals.{Reason, Told, first_of, told}

abbrev pub within : ℕ → ℕ → ℕ → Bool
within low high n = nat_le low n && nat_le n high

-- 1 to 16 levels, 1 to 64 robots, and a set of 0 to 3
abbrev pub settings_refusal : ℕ → ℕ → ℕ → Option Told
settings_refusal levels robots set =
    first_of ((not (within 1 16 levels && (within 1 64 robots && nat_le set 3)), told SettingsRange 0 0) ∷ [])

pub record InRange (levels robots set : ℕ) : Type 0 where
  pub levels_low : 1 ≤ levels
  pub levels_high : levels ≤ 16
  pub robots_low : 1 ≤ robots
  pub robots_high : robots ≤ 64
  pub set_high : set ≤ 3

abbrev pub settings_reasons : ℕ → ℕ → ℕ → List Reason
settings_reasons levels robots set = record { holds = InRange levels robots set → ⊥; tells = told SettingsRange 0 0 } ∷ []

-- settings are those of their numbers, in words
pub record MadeOf (levels robots set : ℕ) (s : SiteSettings) : Type 0 where
  pub levels_so : s.levels ≡ levels
  pub robots_so : s.robots ≡ robots
  pub set_so : IsSet set s.times

abbrev pub settings_from : ℕ → ℕ → ℕ → SiteSettings
settings_from levels robots set =
    record { levels = levels; robots = robots; times = unwrap_or (duration_set set) (times 1 1 1 1 1 1) }
