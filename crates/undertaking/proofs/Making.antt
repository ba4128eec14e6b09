-- Settings that were made are proper. Assumes nothing.
use Rattle.terms.specs.View.{settings_of}
use Rattle.terms.specs.declared.settings.Settings.{Settings}
use Rattle.undertaking.proofs.Plain.{Proper}

pub proper : (s : Settings) → Proper (settings_of s)
proper s =
    record {
      levels = s.levels_low;
      few_levels = s.levels_high;
      entry = s.durations.entry_lasts;
      leave = s.durations.leave_lasts;
      loaded = s.durations.loaded_lasts;
      empty = s.durations.empty_lasts;
      pickup = s.durations.pickup_lasts;
      deliver = s.durations.deliver_lasts;
    }
