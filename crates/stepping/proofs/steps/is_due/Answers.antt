use Rattle.std.proofs.Common.{◌<◌, length, ◌∙◌, arith}
use Rattle.std.proofs.lemmas.Bool.{le-ltb}
use Rattle.stepping.specs.RowBytes.{cells_of}
use Rattle.stepping.proofs.Bytes.{sixteen_cells}
use Rattle.stepping.proofs.Moves.{due_here, due_past}
use Rattle.stepping.proofs.steps.is_due.Goals as goal

pub returns-then-part-part_count : goal.returns-then-part-part_count
returns-then-part-part_count g c =
    let few = (g.met.B.Bank.limits c.args.bank.now).few in
    let cs = cells_of c.args.row.now.bytes in
    let there : c.args.part < length cs =
    omega (arith, sixteen_cells c.args.row.now.bytes c.know_row.ensures.whole) in
    c.is_spent.ensures
    ∙ due_here (g.B.Bank.family c.args.bank.now) cs c.args.part c.read.result c.read.ensures.value
    (omega arith) there

pub returns-else-part-part_count : goal.returns-else-part-part_count
returns-else-part-part_count g c =
    le-ltb c.args.part c.part_count.result c.if-part-part_count.false
    ∙ due_past (g.B.Bank.family c.args.bank.now) (cells_of c.args.row.now.bytes) c.args.part (omega arith)
