use Rattle.std.proofs.Common.{◌<◌, length, ap, arith}
use Rattle.book.specs.declared.row.Row.{Row as Bytes}
use Rattle.fddevs.specs.Rows.{Row}
use Rattle.wiring.specs.Meaning.{wiring_of}
use Rattle.stepping.specs.RowBytes.{cells_of}
use Rattle.stepping.specs.Stepping.{machine}
use Rattle.stepping.proofs.Bytes.{sixteen_cells}
use Rattle.stepping.proofs.Moves.{silent_step, sending_step, no_step}
use Rattle.stepping.proofs.Shorts.{short_fresh}
use Rattle.stepping.proofs.steps.Scheme.internal_step.Goals as goal
use Rattle.stepping.proofs.steps.Scheme.internal_step.Goals.{in-Sends, in_default}

pub returns-after-output : goal.returns-after-output
returns-after-output g c =
    let F = g.B.Bank.family c.args.self.now.bank.now in
    let W = wiring_of c.args.self.now.wiring.now in
    let p = c.args.part in
    let cs = cells_of c.args.row.now.bytes in
    let ds = cells_of c.match-output.row.bytes in
    let es = cells_of c.put.new.row.bytes in
    let cells : Bytes → Row = λ r. cells_of r.bytes in
    let few = (g.met.B.Bank.limits c.args.self.now.bank.now).few in
    let here : p < F.count = omega arith in
    let there : p < length cs = omega (arith, sixteen_cells c.args.row.now.bytes c.know_row.ensures.whole) in
    elim c.match-output.branch [
      | in-Sends w ↦
          sending_step F W p cs c.read-before.result c.after_internal.result c.read-before.ensures.value
          c.after_internal.ensures here there w.in-Sends.number (cells_of w.send.new.row.bytes) ds es
          w.in-Sends.ensures w.send.ensures (ap cells w.row-is) c.put.ensures
      | in_default w ↦
          silent_step F W p cs c.read-before.result c.after_internal.result c.read-before.ensures.value
          c.after_internal.ensures here there ds es w.in_default.ensures (ap cells w.row-is) c.put.ensures
    ]

pub returns-else-part-part_count : goal.returns-else-part-part_count
returns-else-part-part_count g c =
    no_step (g.B.Bank.family c.args.self.now.bank.now) (wiring_of c.args.self.now.wiring.now) c.args.part
    (cells_of c.args.row.now.bytes) (omega arith)
