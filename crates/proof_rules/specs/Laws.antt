-- What judging accepts, and what accepted files show.
use Rattle.std.specs.Prelude.{◌≡◌, ℕ, true, false, ◌↔◌, List, Ok, Result}
use Rattle.fddevs.specs.declared.refusal.Refusal.{Refusal}
use Rattle.fddevs.specs.Machine.{Family, WithinLimits}
use Rattle.fddevs.specs.Scheme.{Wiring, scheme, State, Entered}
use Rattle.bars.specs.Bars.{barred}
use Rattle.proof_rules.specs.declared.evidence.Evidence.{Evidence}
use Rattle.proof_rules.specs.declared.evidence.Evidence.TheVariants.{Set, Witness}
use Rattle.proof_rules.specs.Files.{Bytes}
use Rattle.proof_rules.specs.Judging.{judgement}
use Rattle.proof_rules.specs.Rules.{Bars, phases, KeepsSetRules, KeepsWitnessRules}

-- The answer takes a file for a set exactly when it keeps the rules of sets, and for a witness exactly when it keeps
-- those of witnesses.
pub record ByTheRules (F : Family) (W : Wiring) (bars : Bars) (file : List ℕ) (r : Result Evidence Refusal) : Type 0 where
  pub sets : (r ≡ Ok Set) ↔ KeepsSetRules F W bars file
  pub witnesses : (r ≡ Ok Witness) ↔ KeepsWitnessRules F W bars file

abbrev pub JudgedByTheRules : Type 0
JudgedByTheRules =
    (F : Family) → WithinLimits F → (W : Wiring) (bars : Bars) (file : List ℕ) → Bytes file →
    ByTheRules F W bars file (judgement F W bars file)

-- no run enters a barred state; some run does
abbrev pub NeverEntered : Family → Wiring → Bars → Type 0
NeverEntered F W bars = (u : State) → Entered (scheme F W) u → barred bars (phases u) ≡ false

abbrev pub SomeEntered : Family → Wiring → Bars → Type 0
SomeEntered F W bars = (u : State) × Entered (scheme F W) u × (barred bars (phases u) ≡ true)

abbrev pub SetsSound : Type 0
SetsSound = (F : Family) (W : Wiring) (bars : Bars) (file : List ℕ) → KeepsSetRules F W bars file → NeverEntered F W bars

abbrev pub WitnessesSound : Type 0
WitnessesSound = (F : Family) (W : Wiring) (bars : Bars) (file : List ℕ) → KeepsWitnessRules F W bars file → SomeEntered F W bars
