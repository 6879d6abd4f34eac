-- Timers: their settings, the parts they mean, and what is refused. Assumes nothing.
use Rattle.std.specs.Prelude.{ℕ, Bool, cond, ◌&&◌, List, length, is_ok, ◌==◌, nat_le, slice_index_or}
use Rattle.fddevs.specs.Machine.{Machine, Family, idle_family}
use Rattle.fddevs.specs.Vetting.{Vetted, then, unless, seek, found}
use Rattle.fddevs.specs.declared.part.External.{External}
use Rattle.fddevs.specs.declared.part.Mark.TheVariants.{Keep, Restart}
use Rattle.fddevs.specs.declared.part.Output.{Output}
use Rattle.fddevs.specs.declared.part.Output.TheVariants.{Silent, Sends}
use Rattle.fddevs.specs.declared.part.Span.{Span}
use Rattle.fddevs.specs.declared.part.Span.TheVariants.{Ticks, Unlimited}
use Rattle.fddevs.specs.declared.refusal.Refusal.TheVariants.{TimerCount, TimerTime}
use Rattle.timers.specs.declared.setting.Setting.{Setting}

-- the phases, of which rest is the start
abbrev pub rest : ℕ
rest = 0

abbrev pub timing : ℕ
timing = 1

abbrev pub operated : ℕ
operated = 2

abbrev pub resetting : ℕ
resetting = 3

-- the inputs
abbrev pub pickup : ℕ
pickup = 0

abbrev pub dropout : ℕ
dropout = 1

-- timing lasts the operate time, resetting the hold time
abbrev pub timer_lifespan : Setting → ℕ → Span
timer_lifespan t s = cond (s == timing) (Ticks t.operate) (cond (s == resetting) (Ticks t.hold) Unlimited)

-- timing ends in operated and sends output 0; resetting ends in rest and sends output 1; others are silent and stay
abbrev pub timer_next : ℕ → ℕ
timer_next s = cond (s == timing) operated (cond (s == resetting) rest s)

abbrev pub timer_output : ℕ → Output
timer_output s = cond (s == timing) (Sends 0) (cond (s == resetting) (Sends 1) Silent)

abbrev pub restart : ℕ → External
restart s = record { next = s; mark = Restart }

abbrev pub ignored : ℕ → External
ignored s = record { next = s; mark = Keep }

-- pickup leads from rest to timing and from resetting to operated, dropout from timing to rest and from operated to
-- resetting, all with restart; elsewhere they are ignored
abbrev pub timer_external : ℕ → ℕ → External
timer_external s i =
    cond (i == pickup)
    (cond (s == rest) (restart timing) (cond (s == resetting) (restart operated) (ignored s)))
    (cond (s == timing) (restart rest) (cond (s == operated) (restart resetting) (ignored s)))

abbrev pub timer_machine : Setting → Machine
timer_machine t = record {
  counts = record { phases = 4; inputs = 2; outputs = 2 };
  start = rest;
  lifespan = timer_lifespan t;
  next = timer_next;
  output = timer_output;
  external = timer_external;
}

abbrev pub no_setting : Setting
no_setting = record { operate = 0; hold = 0 }

-- one part a timer, in order
abbrev pub timer_family : List Setting → Family
timer_family ts = record { count = length ts; part = λ p. timer_machine (slice_index_or ts p no_setting) }

-- what is refused: the count first, then the first timer with a time beyond the limit
abbrev pub short : Setting → Bool
short t = nat_le t.operate 65534 && nat_le t.hold 65534

abbrev pub count_fits : List Setting → Bool
count_fits ts = nat_le 1 (length ts) && nat_le (length ts) 16

abbrev pub first_long : List Setting → Vetted
first_long ts = found TimerTime (seek (λ k. short (slice_index_or ts k no_setting)) 0 (length ts))

abbrev pub vetting : List Setting → Vetted
vetting ts = then (unless (count_fits ts) TimerCount) (first_long ts)

-- made against its vetting, the bank is the idle bank
abbrev pub made_family : List Setting → Family
made_family ts = cond (is_ok (vetting ts)) (timer_family ts) idle_family
