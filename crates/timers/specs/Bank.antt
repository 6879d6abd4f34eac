-- What a timer bank holds. Assumes nothing.
use Rattle.std.specs.Prelude.{vec_items}
use Rattle.fddevs.specs.Machine.{Family}
use Rattle.timers.specs.Timers.{timer_family}
use Rattle.timers.specs.declared.timers.Timers.{Timers}

abbrev pub held_family : Timers → Family
held_family x = timer_family (vec_items x.settings)
