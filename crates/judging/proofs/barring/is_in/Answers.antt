use Rattle.std.proofs.Common.{◌<◌, ◌≤◌, eqb, length, sym, ap, ◌∙◌, arith}
use Rattle.std.proofs.lemmas.Bool.{le-ltb}
use Rattle.stepping.specs.RowBytes.{cells_of}
use Rattle.stepping.proofs.Bytes.{sixteen_cells}
use Rattle.judging.proofs.Cells.{in_there, in_past}
use Rattle.judging.proofs.barring.is_in.Goals as goal

pub returns-then-condition-part_count : goal.returns-then-condition-part_count
returns-then-condition-part_count g c =
    let n = (g.B.Bank.family c.args.bank.now).count in
    let few = (g.met.B.Bank.limits c.args.bank.now).few in
    let bs = c.args.row.now.bytes in
    let here : c.args.condition.part < n = omega arith in
    let there : c.args.condition.part < length (cells_of bs) = omega (arith, sixteen_cells bs c.know_row.ensures.whole) in
    ap (λ k. eqb k c.args.condition.phase) c.phase.ensures
    ∙ sym (in_there n (cells_of bs) c.args.condition.part c.args.condition.phase here there)

pub returns-else-condition-part_count : goal.returns-else-condition-part_count
returns-else-condition-part_count g c =
    let n = (g.B.Bank.family c.args.bank.now).count in
    let past : n ≤ c.args.condition.part = omega arith in
    le-ltb c.args.condition.part c.part_count.result c.if-condition-part_count.false
    ∙ sym (in_past n (cells_of c.args.row.now.bytes) c.args.condition.part c.args.condition.phase past)
