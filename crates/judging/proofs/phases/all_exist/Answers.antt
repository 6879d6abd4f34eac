use Rattle.std.proofs.Common.{◌≤◌, ltb, length, ◌∙◌, arith, rules}
use Rattle.fddevs.proofs.Ranges.{all_of_range}
use Rattle.stepping.specs.RowBytes.{cells_of}
use Rattle.stepping.specs.Stepping.{nth_cell}
use Rattle.stepping.proofs.Bytes.{sixteen_cells}
use Rattle.judging.proofs.Cells.{exist_below}
use Rattle.judging.proofs.phases.all_exist.Goals as goal

pub returns : goal.returns
returns g c =
    let F = g.B.Bank.family c.args.bank.now in
    let few = (g.met.B.Bank.limits c.args.bank.now).few in
    let cs = cells_of c.args.row.now.bytes in
    let long : F.count ≤ length cs = omega (arith, sixteen_cells c.args.row.now.bytes c.know_row.ensures.whole) in
    all_of_range (λ k. ltb (nth_cell cs k).phase (F.part k).counts.phases) F.count _ _ _ (search rules) c.all.ensures.ran
    (λ k b q h. search rules)
    ∙ exist_below F cs long
