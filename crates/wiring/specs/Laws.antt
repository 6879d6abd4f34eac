-- The rules of wirings, which files are accepted, and which refusal is given, as statements.
use Rattle.std.specs.Prelude.{◌≡◌, ℕ, ◌+◌, ◌*◌, ◌/◌, ◌%◌, ◌<◌, ◌≤◌, true, false, ◌↔◌, List, [], ◌∷◌, ◌++◌, length, Ok, Err, ◌≢◌}
use Rattle.std.specs.List.{AllByRecursion}
use Rattle.fddevs.specs.declared.refusal.Layer.TheVariants.{Wiring as in_wiring}
use Rattle.fddevs.specs.declared.refusal.Refusal.{Refusal}
use Rattle.fddevs.specs.declared.refusal.Refusal.TheVariants.{NotWhole, Version, WiringCounts}
use Rattle.fddevs.specs.declared.scheme.Wire.{Wire}
use Rattle.fddevs.specs.Machine.{Family}
use Rattle.fddevs.specs.Scheme.{Wiring, outside}
use Rattle.fddevs.specs.Refusals.{number_of, place_of}
use Rattle.wiring.specs.File.{held, is_whole, is_version_one, is_within}
use Rattle.wiring.specs.Reading.{keeps, breach, reading}
use Rattle.wiring.specs.declared.rule.Rule.{Rule}
use Rattle.wiring.specs.Wires.{bytes, before, nth}

-- the bytes of the wires, one after another
abbrev pub laid : List Wire → List ℕ
laid [] = []
laid (w ∷ ws) = bytes w ++ laid ws

-- how many bytes follow the length
abbrev pub size : Wiring → ℕ
size W = 2 + 4 * length W.wires

-- the file of a wiring
abbrev pub file_of : Wiring → List ℕ
file_of W = 1 ∷ size W / 256 ∷ size W % 256 ∷ W.outer_inputs ∷ W.outer_outputs ∷ laid W.wires

-- both ends of the wire exist
pub record EndsExist (F : Family) (W : Wiring) (w : Wire) : Type 0 where
  -- no part feeds itself, and no outer input is an outer output
  pub not_itself : w.source ≡ w.target → ⊥
  pub outer_input : w.source ≡ outside → w.output < W.outer_inputs
  pub part_output : (w.source ≢ outside) →
      (w.source < F.count) × (w.output < (F.part w.source).counts.outputs)
  pub outer_output : w.target ≡ outside → w.input < W.outer_outputs
  pub part_input : (w.target ≢ outside) →
      (w.target < F.count) × (w.input < (F.part w.target).counts.inputs)

-- both wires lead from one output of one source to one target
pub record SameStart (v w : Wire) : Type 0 where
  pub source : v.source ≡ w.source
  pub output : v.output ≡ w.output
  pub target : v.target ≡ w.target

pub record KeepsWiringRules (F : Family) (W : Wiring) : Type 0 where
  pub few_inputs : W.outer_inputs ≤ 32
  pub few_outputs : W.outer_outputs ≤ 32
  pub few_wires : length W.wires ≤ 256
  pub ascending : (j k : ℕ) → j < k → k < length W.wires →
      before (bytes (nth W.wires j)) (bytes (nth W.wires k)) ≡ true
  pub apart : (j k : ℕ) → j < k → k < length W.wires → SameStart (nth W.wires j) (nth W.wires k) → ⊥
  pub ends : AllByRecursion (EndsExist F W) W.wires

-- A file of bytes is read as a wiring exactly where it is that wiring's file and the wiring keeps the rules.
abbrev pub AcceptsExactly : Type 0
AcceptsExactly =
    (F : Family) (f : List ℕ) (W : Wiring) → AllByRecursion (λ b. b < 256) f →
    (reading F f ≡ Ok W) ↔ ((f ≡ file_of W) × KeepsWiringRules F W)

-- what is at fault in a file, and the refusal for it
pub data Fault (F : Family) (f : List ℕ) : Refusal → Type 0 where
  not_whole : is_whole f ≡ false → Fault F f (NotWhole in_wiring)
  other_version : is_version_one f ≡ false → Fault F f (Version in_wiring)
  beyond_limits : is_within f ≡ false → Fault F f WiringCounts
  broken : (r : Rule) (k : ℕ) → k < length (held f).wires → keeps r F (held f) k ≡ false → Fault F f (breach r k)

-- no fault has a smaller number, or the same number and an earlier place
pub record Smallest (F : Family) (f : List ℕ) (e : Refusal) : Type 0 where
  pub fault : Fault F f e
  pub smallest : (o : Refusal) → Fault F f o → number_of e ≤ number_of o
  pub earliest : (o : Refusal) → Fault F f o → number_of o ≡ number_of e → place_of e ≤ place_of o

-- A file is refused exactly for the smallest of its faults.
abbrev pub RefusesSmallest : Type 0
RefusesSmallest = (F : Family) (f : List ℕ) (e : Refusal) → (reading F f ≡ Err e) ↔ Smallest F f e
