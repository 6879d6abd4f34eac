use Rattle.std.proofs.Common.{ap, ◌∙◌, arith}
use Rattle.fddevs.specs.Rows.{cell_delay}
use Rattle.stepping.specs.RowBytes.{cells_of}
use Rattle.stepping.proofs.Made.{made_none, made_more, made_all, map_made}
use Rattle.stepping.proofs.Shorts.{short_delayed}
use Rattle.stepping.proofs.steps.delay.Goals as goal

pub returns : goal.returns
returns g c =
    let cs = cells_of c.args.row.now.bytes in
    let n = (g.B.Bank.family c.args.bank.now).count in
    made_all (λ _ d. cell_delay c.args.d d) c.loop-part.part n cs (cells_of c.loop-part.row.bytes) _
    (omega arith) c.loop-part.invariant (map_made (cell_delay c.args.d) n cs)
