-- By settings every work takes some time. Assumes nothing.
use Rattle.std.proofs.Common.{true, false, arith}
use Rattle.terms.specs.View.{settings_of}
use Rattle.terms.specs.declared.settings.Settings.{Settings}
use Rattle.terms.specs.declared.work.Work.TheVariants.{Entry, Leave, Wait, Move, PickUp, Deliver}
use Rattle.plan.specs.Judged.{Timed}

pub timed : (s : Settings) → Timed (settings_of s)
timed s Entry b = s.durations.entry_lasts
timed s Leave b = s.durations.leave_lasts
timed s Wait b = omega arith
timed s Move true = s.durations.loaded_lasts
timed s Move false = s.durations.empty_lasts
timed s PickUp b = s.durations.pickup_lasts
timed s Deliver b = s.durations.deliver_lasts
