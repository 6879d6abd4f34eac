-- Worked cases of the steps of a part: a lifespan that is kept.
use Rattle.std.specs.Prelude.{◌≡◌, ℕ, cond, ◌==◌}
use Rattle.fddevs.specs.declared.part.Mark.TheVariants.{Keep, Restart}
use Rattle.fddevs.specs.declared.part.Output.TheVariants.{Silent}
use Rattle.fddevs.specs.declared.part.PartMove.TheVariants.{Input, Internal, Delay}
use Rattle.fddevs.specs.declared.part.PartState.{PartState}
use Rattle.fddevs.specs.declared.part.Span.{Span}
use Rattle.fddevs.specs.declared.part.Span.TheVariants.{Ticks, Unlimited}
use Rattle.fddevs.specs.Machine.{Machine}
use Rattle.fddevs.specs.Part.{Due, PartStep, begin}

-- Phase 0 lasts 5 ticks; input 0 leads from it with keep to phase 1, which is unlimited, and input 1 restarts phase 0.
abbrev pub keeper : Machine
keeper = record {
  counts = record { phases = 2; inputs = 2; outputs = 0 };
  start = 0;
  lifespan = λ s. cond (s == 0) (Ticks 5) Unlimited;
  next = λ s. 0;
  output = λ s. Silent;
  external = λ s i. cond (i == 0) (record { next = 1; mark = Keep }) (record { next = 0; mark = Restart });
}

abbrev pub at : ℕ → Span → ℕ → PartState
at s l e = record { phase = s; lifespan = l; elapsed = e }

pub record KeptLifespans : Type 0 where
  -- after a delay of 2 the input keeps the lifespan and the elapsed ticks, and after 3 more it is due in phase 1
  pub begins : begin keeper ≡ at 0 (Ticks 5) 0
  pub passes : PartStep keeper (at 0 (Ticks 5) 0) (Delay 2) (at 0 (Ticks 5) 2)
  pub keeps : PartStep keeper (at 0 (Ticks 5) 2) (Input 0) (at 1 (Ticks 5) 2)
  pub waits_on : PartStep keeper (at 1 (Ticks 5) 2) (Delay 3) (at 1 (Ticks 5) 5)
  pub falls_due : Due (at 1 (Ticks 5) 5)
  -- the unlimited phase then takes its internal step
  pub goes : PartStep keeper (at 1 (Ticks 5) 5) Internal (at 0 (Ticks 5) 0)
  -- a part that is due and restarted is not due any more
  pub restarts : PartStep keeper (at 1 (Ticks 5) 5) (Input 1) (at 0 (Ticks 5) 0)
  pub not_due : Due (at 0 (Ticks 5) 0) → ⊥
  -- a delay does not pass the end of the lifespan
  pub no_further : (t : PartState) → PartStep keeper (at 1 (Ticks 5) 2) (Delay 4) t → ⊥
