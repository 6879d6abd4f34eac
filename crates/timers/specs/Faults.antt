-- What may be at fault in timer settings, and the refusal for it.
use Rattle.std.specs.Prelude.{◌≡◌, ℕ, ◌<◌, false, List, length, slice_index_or}
use Rattle.fddevs.specs.declared.refusal.Refusal.{Refusal}
use Rattle.fddevs.specs.declared.refusal.Refusal.TheVariants.{TimerCount, TimerTime}
use Rattle.timers.specs.Timers.{short, count_fits, no_setting}
use Rattle.timers.specs.declared.setting.Setting.{Setting}

pub data Fault (ts : List Setting) : Refusal → Type 0 where
  other_count : count_fits ts ≡ false → Fault ts TimerCount
  -- a time of timer k is beyond 65,534 ticks
  long_time : (k : ℕ) → k < length ts → short (slice_index_or ts k no_setting) ≡ false → Fault ts (TimerTime k)
