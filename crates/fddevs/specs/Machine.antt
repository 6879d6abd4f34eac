-- A part as a timed machine (FD-DEVS), families of parts, their limits, and what a bank answers of them. Assumes nothing.
use Rattle.std.specs.Prelude.{ℕ, ◌<◌, ◌≤◌, Bool, true, false, cond, ◌&&◌, Some, None, Option, nat_lt}
use Rattle.fddevs.specs.declared.part.Span.{Span}
use Rattle.fddevs.specs.declared.part.Span.TheVariants.{Ticks, Unlimited}
use Rattle.fddevs.specs.declared.part.Mark.TheVariants.{Keep}
use Rattle.fddevs.specs.declared.part.Output.{Output}
use Rattle.fddevs.specs.declared.part.Output.TheVariants.{Silent, Sends}
use Rattle.fddevs.specs.declared.part.Counts.{Counts}
use Rattle.fddevs.specs.declared.part.External.{External}

-- A part. Phases, inputs and outputs are numbered from 0.
pub record Machine : Type 0 where
  pub counts : Counts
  pub start : ℕ
  -- of a phase: its lifespan, the phase its internal step leads to, and what that step sends
  pub lifespan : ℕ → Span
  pub next : ℕ → ℕ
  pub output : ℕ → Output
  -- of a phase and an input: the phase it leads to, and its mark
  pub external : ℕ → ℕ → External

-- a number of parts, and the part of each number below it
pub record Family : Type 0 where
  pub count : ℕ
  pub part : ℕ → Machine

-- the limits: 1 to 16 parts, 1 to 64 phases, up to 16 inputs and outputs, lifespans up to 65,534 ticks,
-- and every phase and output that is named exists
abbrev pub Short : Span → Type 0
Short (Ticks n) = n ≤ 65534
Short Unlimited = Unit {0}

abbrev pub Exists : ℕ → Output → Type 0
Exists n Silent = Unit {0}
Exists n (Sends o) = o < n

pub record CountsWithin (c : Counts) : Type 0 where
  pub some_phase : 1 ≤ c.phases
  pub few_phases : c.phases ≤ 64
  pub few_inputs : c.inputs ≤ 16
  pub few_outputs : c.outputs ≤ 16

pub record PhaseWithin (m : Machine) (s : ℕ) : Type 0 where
  pub short : Short (m.lifespan s)
  pub next_exists : m.next s < m.counts.phases
  pub output_exists : Exists m.counts.outputs (m.output s)
  pub external_exists : (i : ℕ) → i < m.counts.inputs → (m.external s i).next < m.counts.phases

pub record PartWithin (m : Machine) : Type 0 where
  pub counts : CountsWithin m.counts
  pub start_exists : m.start < m.counts.phases
  pub phase : (s : ℕ) → s < m.counts.phases → PhaseWithin m s

pub record WithinLimits (F : Family) : Type 0 where
  pub some : 1 ≤ F.count
  pub few : F.count ≤ 16
  pub part : (p : ℕ) → p < F.count → PartWithin (F.part p)

-- What a bank of this family answers. Beyond the counts it answers none.
abbrev pub when : {A : Type 0} → Bool → A → Option A
when true x = Some x
when false x = None

abbrev pub counts_at : Family → ℕ → Option Counts
counts_at F p = when (nat_lt p F.count) (F.part p).counts

abbrev pub start_at : Family → ℕ → Option ℕ
start_at F p = when (nat_lt p F.count) (F.part p).start

abbrev pub has_phase : Family → ℕ → ℕ → Bool
has_phase F p s = nat_lt p F.count && nat_lt s (F.part p).counts.phases

abbrev pub lifespan_at : Family → ℕ → ℕ → Option Span
lifespan_at F p s = when (has_phase F p s) ((F.part p).lifespan s)

abbrev pub next_at : Family → ℕ → ℕ → Option ℕ
next_at F p s = when (has_phase F p s) ((F.part p).next s)

abbrev pub output_at : Family → ℕ → ℕ → Option Output
output_at F p s = when (has_phase F p s) ((F.part p).output s)

abbrev pub external_at : Family → ℕ → ℕ → ℕ → Option External
external_at F p s i = when (has_phase F p s && nat_lt i (F.part p).counts.inputs) ((F.part p).external s i)

-- The same part, with all that lies beyond its counts ignored: an input that it does not have leads to the same phase
-- with keep, and a phase that it does not have is unlimited, stays and is silent.
abbrev pub bounded : Machine → Machine
bounded m = record {
  counts = m.counts;
  start = m.start;
  lifespan = λ s. cond (nat_lt s m.counts.phases) (m.lifespan s) Unlimited;
  next = λ s. cond (nat_lt s m.counts.phases) (m.next s) s;
  output = λ s. cond (nat_lt s m.counts.phases) (m.output s) Silent;
  external = λ s i.
      cond (nat_lt s m.counts.phases && nat_lt i m.counts.inputs) (m.external s i) (record { next = s; mark = Keep });
}

-- one part with one unlimited phase, no inputs and no outputs
abbrev pub idle_machine : Machine
idle_machine = record {
  counts = record { phases = 1; inputs = 0; outputs = 0 };
  start = 0;
  lifespan = λ _. Unlimited;
  next = λ _. 0;
  output = λ _. Silent;
  external = λ s _. record { next = s; mark = Keep };
}

abbrev pub idle_family : Family
idle_family = record { count = 1; part = λ _. idle_machine }
