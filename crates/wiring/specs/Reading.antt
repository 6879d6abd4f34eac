-- What reading a wiring file gives for a family of parts. Assumes nothing.
use Rattle.std.specs.Prelude.{◌≡◌, ℕ, Bool, true, cond, not, ◌&&◌, List, length, Ok, Err, Result, ◌==◌, nat_lt}
use Rattle.fddevs.specs.declared.refusal.Layer.TheVariants.{Wiring as in_wiring}
use Rattle.fddevs.specs.declared.refusal.Refusal.{Refusal}
use Rattle.fddevs.specs.declared.refusal.Refusal.TheVariants.{NotWhole, Version, WiringCounts, WireOrder, WireTwice, WireNames}
use Rattle.fddevs.specs.declared.scheme.Wire.{Wire}
use Rattle.fddevs.specs.Machine.{Family}
use Rattle.fddevs.specs.Scheme.{Wiring, outside}
use Rattle.fddevs.specs.Vetting.{Vetted, vetted, then, unless, seek, found}
use Rattle.wiring.specs.File.{held, is_whole, is_version_one, is_within}
use Rattle.wiring.specs.Meaning.{wiring_of}
use Rattle.wiring.specs.Wires.{ascends, in_order, is_apart, nth}
use Rattle.wiring.specs.declared.rule.Rule.{Rule}
use Rattle.wiring.specs.declared.rule.Rule.TheVariants.{Order, Apart, Names}
use Rattle.wiring.specs.declared.wires.OuterCounts.{OuterCounts}
use Rattle.wiring.specs.declared.wires.Wiring.{Wiring as Table}

-- the output, or from outside the outer input, exists
abbrev pub source_exists : Family → ℕ → Wire → Bool
source_exists F outer_inputs w =
    cond (w.source == outside) (nat_lt w.output outer_inputs)
    (nat_lt w.source F.count && nat_lt w.output (F.part w.source).counts.outputs)

-- the input, or to the outside the outer output, exists
abbrev pub target_exists : Family → ℕ → Wire → Bool
target_exists F outer_outputs w =
    cond (w.target == outside) (nat_lt w.input outer_outputs)
    (nat_lt w.target F.count && nat_lt w.input (F.part w.target).counts.inputs)

-- both ends exist, and are not of one part, nor both outside
abbrev pub has_ends : Family → Wiring → Wire → Bool
has_ends F W w =
    not (w.source == w.target)
    && (source_exists F W.outer_inputs w && target_exists F W.outer_outputs w)

-- wire k keeps the rule
abbrev pub keeps : Rule → Family → Wiring → ℕ → Bool
keeps Order F W k = in_order W.wires k
keeps Apart F W k = is_apart W.wires k
keeps Names F W k = has_ends F W (nth W.wires k)

abbrev pub breach : Rule → ℕ → Refusal
breach Order k = WireOrder k
breach Apart k = WireTwice k
breach Names k = WireNames k

-- every wire keeps the rule, or the first that does not is refused
abbrev pub kept : Rule → Family → Wiring → Vetted
kept r F W = found (breach r) (seek (keeps r F W) 0 (length W.wires))

abbrev pub head_vetting : List ℕ → Vetted
head_vetting f =
    then (unless (is_whole f) (NotWhole in_wiring))
    (then (unless (is_version_one f) (Version in_wiring)) (unless (is_within f) WiringCounts))

abbrev pub wires_vetting : Family → Wiring → Vetted
wires_vetting F W = then (kept Order F W) (then (kept Apart F W) (kept Names F W))

-- the smallest number that holds, at the first wire at fault
abbrev pub vetting : Family → List ℕ → Vetted
vetting F f = then (head_vetting f) (wires_vetting F (held f))

abbrev pub accepted : Vetted → Wiring → Result Wiring Refusal
accepted = vetted

abbrev pub reading : Family → List ℕ → Result Wiring Refusal
reading F f = accepted (vetting F f) (held f)

-- the same of a wiring in memory
abbrev pub meant : Result Table Refusal → Result Wiring Refusal
meant (Ok w) = Ok (wiring_of w)
meant (Err e) = Err e

abbrev pub draft : OuterCounts → List Wire → Wiring
draft outer ws = record { outer_inputs = outer.inputs; outer_outputs = outer.outputs; wires = ws }

-- what a rule's test rests on: where the wires ascend, two with one start stand side by side
abbrev pub Ready : Rule → List Wire → Type 0
Ready Order ws = Unit {0}
Ready Apart ws = ascends ws ≡ true
Ready Names ws = Unit {0}
