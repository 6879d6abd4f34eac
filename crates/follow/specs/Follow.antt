-- What comes of a move of a part of a family. Assumes nothing.
use Rattle.std.specs.Prelude.{ℕ, ◌+◌, ◌^◌, Bool, true, false, cond, ◌&&◌, Ok, Err, Option, Result, ◌==◌, nat_le, nat_lt}
use Rattle.std.specs.Option.{ok_or}
use Rattle.fddevs.specs.Machine.{Family, when, has_phase}
use Rattle.fddevs.specs.Part.{after_input, after_internal, after_delay}
use Rattle.fddevs.specs.declared.part.PartMove.{PartMove}
use Rattle.fddevs.specs.declared.part.PartMove.TheVariants.{Input, Internal, Delay}
use Rattle.fddevs.specs.declared.part.PartState.{PartState}
use Rattle.fddevs.specs.declared.part.Span.{Span}
use Rattle.fddevs.specs.declared.part.Span.TheVariants.{Ticks, Unlimited}
use Rattle.follow.specs.declared.moves.Arrival.{Arrival}
use Rattle.follow.specs.declared.moves.Stuck.{Stuck}
use Rattle.follow.specs.declared.moves.Stuck.TheVariants.{NotAllowed, TooLong}

-- e ticks are the whole span; they are at most the span
abbrev pub spent : Span → ℕ → Bool
spent (Ticks l) e = e == l
spent Unlimited e = false

abbrev pub within : Span → ℕ → Bool
within (Ticks l) e = nat_le e l
within Unlimited e = true

-- where input i leads in phase s, and the lifespan there
abbrev pub arrival_in : Family → ℕ → ℕ → ℕ → Option Arrival
arrival_in F p s i =
    when (has_phase F p s && nat_lt i (F.part p).counts.inputs)
    (record { external = (F.part p).external s i; lifespan = (F.part p).lifespan ((F.part p).external s i).next })

-- part p in state c takes input i, if it has that input
abbrev pub input_in : Family → ℕ → PartState → ℕ → Option PartState
input_in F p c i = when (has_phase F p c.phase && nat_lt i (F.part p).counts.inputs) (after_input (F.part p) i c)

-- it takes its internal step, if it is due
abbrev pub internal_in : Family → ℕ → PartState → Option PartState
internal_in F p c = when (spent c.lifespan c.elapsed && has_phase F p c.phase) (after_internal (F.part p) c)

-- it lets d ticks pass, if the carried lifespan allows it and the count of ticks has room
abbrev pub after_delay_in : PartState → ℕ → Result PartState Stuck
after_delay_in c d =
    cond (within c.lifespan (c.elapsed + d))
    (cond (nat_lt (c.elapsed + d) (2 ^ 64)) (Ok (after_delay d c)) (Err TooLong)) (Err NotAllowed)

abbrev pub moved : Family → ℕ → PartState → PartMove → Result PartState Stuck
moved F p c (Input i) = ok_or (input_in F p c i) NotAllowed
moved F p c Internal = ok_or (internal_in F p c) NotAllowed
moved F p c (Delay d) = after_delay_in c d
