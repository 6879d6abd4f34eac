use Rattle.std.proofs.Common.{◌≤◌, length, ◌∙◌, arith, rules}
use Rattle.fddevs.proofs.Ranges.{all_of_range}
use Rattle.fddevs.specs.Rows.{lasts}
use Rattle.stepping.specs.RowBytes.{cells_of}
use Rattle.stepping.specs.Stepping.{nth_cell}
use Rattle.stepping.proofs.Bytes.{sixteen_cells}
use Rattle.stepping.proofs.Moves.{every_below}
use Rattle.stepping.proofs.steps.all_last.Goals as goal

pub returns : goal.returns
returns g c =
    let n = (g.B.Bank.family c.args.bank.now).count in
    let few = (g.met.B.Bank.limits c.args.bank.now).few in
    let cs = cells_of c.args.row.now.bytes in
    let long : n ≤ length cs = omega (arith, sixteen_cells c.args.row.now.bytes c.know_row.ensures.whole) in
    all_of_range (λ k. lasts c.args.d (nth_cell cs k).remaining) n _ _ _ (search rules) c.all.ensures.ran
    (λ k b q h. search rules)
    ∙ every_below (λ x. lasts c.args.d x.remaining) n cs long
