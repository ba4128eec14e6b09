-- What clauses read of settings and of room. Assumes nothing.
use Rattle.std.specs.Prelude.{ℕ, vec_capacity}
use Rattle.terms.specs.Durations.{SiteSettings, Times, times}
use Rattle.terms.specs.declared.durations.Durations.{Durations}
use Rattle.terms.specs.declared.reserve.Reserve.{Reserve}
use Rattle.terms.specs.declared.settings.Settings.{Settings}

abbrev pub times_of : Durations → Times
times_of d = times d.entry d.leave d.loaded d.empty d.pickup d.deliver

abbrev pub settings_of : Settings → SiteSettings
settings_of s = record { levels = s.levels; robots = s.robots; times = times_of s.durations }

-- how many values there is room for
abbrev pub room_of : {T : Type 0} {N : ℕ} → Reserve T N → ℕ
room_of reserve = vec_capacity reserve.values
