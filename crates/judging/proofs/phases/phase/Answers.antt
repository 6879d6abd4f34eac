use Rattle.std.proofs.Common.{◌≡◌, length, sym, ap, ◌∙◌, arith, rules}
use Rattle.fddevs.specs.declared.part.Cell.{Cell}
use Rattle.stepping.specs.RowBytes.{cells_of}
use Rattle.stepping.specs.Stepping.{nth_cell}
use Rattle.stepping.proofs.Bytes.{read_cell}
use Rattle.judging.proofs.phases.phase.Goals as goal

pub returns : goal.returns
returns c =
    let bs = c.args.row.now.bytes in
    let whole : length bs ≡ 48 = search rules in
    let p = c.from.result in
    sym (ap (λ (d : Cell). d.phase) (read_cell p bs (omega (arith, c.from.ensures, c.requires))))
    ∙ ap (λ k. (nth_cell (cells_of bs) k).phase) c.from.ensures
