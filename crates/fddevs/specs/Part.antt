-- The state of a part, and its steps. Assumes nothing.
use Rattle.std.specs.Prelude.{◌≡◌, ℕ, ◌+◌, ◌-◌, ◌<◌, ◌≤◌}
use Rattle.fddevs.specs.declared.part.Span.{Span}
use Rattle.fddevs.specs.declared.part.Span.TheVariants.{Ticks, Unlimited}
use Rattle.fddevs.specs.declared.part.Mark.{Mark}
use Rattle.fddevs.specs.declared.part.Mark.TheVariants.{Keep, Restart}
use Rattle.fddevs.specs.declared.part.PartState.{PartState}
use Rattle.fddevs.specs.declared.part.PartMove.{PartMove}
use Rattle.fddevs.specs.declared.part.PartMove.TheVariants.{Input, Internal, Delay}
use Rattle.fddevs.specs.Machine.{Machine}

-- e ticks are at most the span
abbrev pub Within : Span → ℕ → Type 0
Within (Ticks l) e = e ≤ l
Within Unlimited e = Unit {0}

-- e ticks are the whole span
abbrev pub Spent : Span → ℕ → Type 0
Spent (Ticks l) e = e ≡ l
Spent Unlimited e = ⊥

-- what remains of a span after e ticks
abbrev pub left : Span → ℕ → Span
left (Ticks l) e = Ticks (l - e)
left Unlimited e = Unlimited

abbrev pub remaining : PartState → Span
remaining c = left c.lifespan c.elapsed

-- phase s with its own lifespan, from the beginning
abbrev pub fresh : Machine → ℕ → PartState
fresh m s = record { phase = s; lifespan = m.lifespan s; elapsed = 0 }

abbrev pub begin : Machine → PartState
begin m = fresh m m.start

-- restart takes the lifespan of the phase that is led to, from the beginning; keep leaves lifespan and elapsed ticks
abbrev pub led : Machine → Mark → ℕ → PartState → PartState
led m Restart s c = fresh m s
led m Keep s c = record { phase = s; lifespan = c.lifespan; elapsed = c.elapsed }

-- after input i
abbrev pub after_input : Machine → ℕ → PartState → PartState
after_input m i c = led m (m.external c.phase i).mark (m.external c.phase i).next c

-- an internal step is allowed exactly when the elapsed ticks equal the carried lifespan
abbrev pub Due : PartState → Type 0
Due c = Spent c.lifespan c.elapsed

abbrev pub after_internal : Machine → PartState → PartState
after_internal m c = fresh m (m.next c.phase)

-- a delay of d ticks is allowed exactly when the elapsed ticks and d are at most the carried lifespan
abbrev pub CanDelay : ℕ → PartState → Type 0
CanDelay d c = Within c.lifespan (c.elapsed + d)

abbrev pub after_delay : ℕ → PartState → PartState
after_delay d c = record { phase = c.phase; lifespan = c.lifespan; elapsed = c.elapsed + d }

-- the steps of a part
pub data PartStep (m : Machine) : PartState → PartMove → PartState → Type 0 where
  takes : {c : PartState} (i : ℕ) → i < m.counts.inputs → PartStep m c (Input i) (after_input m i c)
  expires : {c : PartState} → Due c → PartStep m c Internal (after_internal m c)
  waits : {c : PartState} (d : ℕ) → CanDelay d c → PartStep m c (Delay d) (after_delay d c)
