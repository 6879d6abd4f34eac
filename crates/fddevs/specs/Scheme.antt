-- A scheme: parts and the wires between them; its steps, its runs, and the states that a run enters. Assumes nothing.
use Rattle.std.specs.Prelude.{◌≡◌, ℕ, zero, suc, ◌<◌, ◌≤◌, Bool, cond, ◌&&◌, ◌⊎◌, List, [], ◌∷◌, map, Some, None, Option, ◌==◌}
use Rattle.std.specs.List.{range_with_len, AllByRecursion}
use Rattle.fddevs.specs.declared.part.Output.{Output}
use Rattle.fddevs.specs.declared.part.Output.TheVariants.{Silent, Sends}
use Rattle.fddevs.specs.declared.part.PartState.{PartState}
use Rattle.fddevs.specs.declared.scheme.Wire.{Wire}
use Rattle.fddevs.specs.declared.scheme.Move.{Move}
use Rattle.fddevs.specs.declared.scheme.Move.TheVariants.{Outer, Internal, Delay}
use Rattle.fddevs.specs.Machine.{Machine, Family, bounded}
use Rattle.fddevs.specs.Part.{Due, CanDelay, begin, after_input, after_internal, after_delay}

-- outer inputs and outputs, by their numbers, and the wires
pub record Wiring : Type 0 where
  pub outer_inputs : ℕ
  pub outer_outputs : ℕ
  pub wires : List Wire

pub record Scheme : Type 0 where
  pub parts : List Machine
  pub wiring : Wiring

-- the scheme of a family of parts and a wiring
abbrev pub scheme : Family → Wiring → Scheme
scheme F W = record { parts = map (λ p. bounded (F.part p)) (range_with_len 0 F.count); wiring = W }

-- one state a part
abbrev pub State : Type 0
State = List PartState

abbrev pub start : Scheme → State
start S = map begin S.parts

-- the source of a wire that comes from an outer input
abbrev pub outside : ℕ
outside = 255

-- the wire leads from this output of the source (or, from outside, this outer input) to the target
abbrev pub links : Wire → ℕ → ℕ → ℕ → Bool
links w source output target = w.source == source && (w.output == output && w.target == target)

-- the input that the target takes from an output of the source, if it is wired to it
abbrev pub wired : List Wire → ℕ → ℕ → ℕ → Option ℕ
wired [] source output target = None
wired (w ∷ ws) source output target =
    cond (links w source output target) (Some w.input) (wired ws source output target)

-- the same of what a part's internal step sends
abbrev pub heard : List Wire → ℕ → Output → ℕ → Option ℕ
heard ws source Silent target = None
heard ws source (Sends o) target = wired ws source o target

-- f at each part: its number, counted from k, the part, and what the list has for it
abbrev pub each : {A B : Type 0} → (ℕ → Machine → A → B) → ℕ → List Machine → List A → List B
each f k [] cs = []
each f k (m ∷ ms) [] = []
each f k (m ∷ ms) (c ∷ cs) = f k m c ∷ each f (suc k) ms cs

-- f at part p, or none where there is no such part
abbrev pub at {ℓ} : {A : Type 0} {B : Type ℓ} → (Machine → A → B) → B → List Machine → List A → ℕ → B
at f none [] cs p = none
at f none (m ∷ ms) [] p = none
at f none (m ∷ ms) (c ∷ cs) zero = f m c
at f none (m ∷ ms) (c ∷ cs) (suc p) = at f none ms cs p

-- a part takes the input if there is one, and else stays
abbrev pub given : Machine → Option ℕ → PartState → PartState
given m None c = c
given m (Some i) c = after_input m i c

-- outer input x comes: every part wired to it takes its input, the others stay
abbrev pub after_outer : Scheme → ℕ → State → State
after_outer S x s = each (λ k m c. given m (wired S.wiring.wires outside x k) c) 0 S.parts s

-- what part p sends by its internal step
abbrev pub sent : Scheme → ℕ → State → Output
sent S p s = at (λ m c. m.output c.phase) Silent S.parts s p

abbrev pub DueAt : Scheme → ℕ → State → Type 0
DueAt S p s = at (λ m c. Due c) ⊥ S.parts s p

-- part p takes its internal step: the parts wired to what it sends take their inputs, the others stay, due or not
abbrev pub after_part : Scheme → ℕ → State → State
after_part S p s =
    each (λ k m c. cond (k == p) (after_internal m c) (given m (heard S.wiring.wires p (sent S p s) k) c)) 0
    S.parts s

-- The steps. A delay is at least 1, and allowed exactly when every part may delay.
pub data Step (S : Scheme) : State → Move → State → Type 0 where
  comes : {s : State} (x : ℕ) → x < S.wiring.outer_inputs → Step S s (Outer x) (after_outer S x s)
  fires : {s : State} (p : ℕ) → DueAt S p s → Step S s (Internal p) (after_part S p s)
  elapses : {s : State} (d : ℕ) → 1 ≤ d → AllByRecursion (CanDelay d) s → Step S s (Delay d) (map (after_delay d) s)

-- a run from a state by allowed steps, and the state where it ends
pub data Run (S : Scheme) : State → List Move → State → Type 0 where
  stop : {s : State} → Run S s [] s
  step : {s t u : State} {a : Move} {ms : List Move} → Step S s a t → Run S t ms u → Run S s (a ∷ ms) u

-- a run enters the state where it starts and the state after each of its steps
abbrev pub Enters : {S : Scheme} {s : State} {ms : List Move} {t : State} → Run S s ms t → State → Type 0
Enters (stop {s = s}) u = u ≡ s
Enters (step {s = s} h r) u = (u ≡ s) ⊎ Enters r u

-- some run from the start enters the state
pub record Entered (S : Scheme) (u : State) : Type 0 where
  pub moves : List Move
  pub end : State
  pub run : Run S (start S) moves end
  pub enters : Enters run u
