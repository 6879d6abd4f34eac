use Rattle.std.proofs.Common.{◌≡◌, take, is_ok, Ok, ap, rules}
use Rattle.fddevs.specs.Scheme.{Wiring}
use Rattle.wiring.specs.File.{held}
use Rattle.wiring.specs.Reading.{wires_vetting}
use Rattle.wiring.proofs.Kept.{vetted_ascends, vetted_apart}
use Rattle.wiring.proofs.reading.read.Goals as goal

pub invariant_of-result : goal.invariant_of-result
invariant_of-result g c =
    let f = c.args.file.now in
    let F = g.B.Bank.family c.args.bank.now in
    let W : Wiring = record {
      outer_inputs = (held f).outer_inputs;
      outer_outputs = (held f).outer_outputs;
      wires = take c.wire_count-count.result c.table-table.result;
    } in
    let passed : wires_vetting F W ≡ Ok tt = search rules in
    record {
      few = search rules;
      whole = search rules;
      ordered = vetted_ascends F W (ap is_ok passed);
      apart = vetted_apart F W (ap is_ok passed);
    }
