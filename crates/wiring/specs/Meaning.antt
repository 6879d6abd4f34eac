-- What a wiring in memory means. Assumes nothing.
use Rattle.std.specs.Prelude.{[], take}
use Rattle.fddevs.specs.Scheme.{Wiring}
use Rattle.wiring.specs.declared.wires.Wiring.{Wiring as Table}

abbrev pub wiring_of : Table → Wiring
wiring_of w = record {
  outer_inputs = w.outer.inputs;
  outer_outputs = w.outer.outputs;
  wires = take w.count w.table;
}

abbrev pub no_wiring : Wiring
no_wiring = record { outer_inputs = 0; outer_outputs = 0; wires = [] }
