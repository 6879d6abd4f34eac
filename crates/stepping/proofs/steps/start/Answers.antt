use Rattle.std.proofs.Common.{◌<◌, replicate, arith}
use Rattle.stepping.specs.RowBytes.{cells_of}
use Rattle.stepping.specs.Stepping.{no_cell, machine}
use Rattle.stepping.proofs.Made.{made_none, made_more}
use Rattle.stepping.proofs.Moves.{begun, started}
use Rattle.stepping.proofs.Shorts.{short_fresh}
use Rattle.stepping.proofs.steps.start.Goals as goal

pub returns : goal.returns
returns g c =
    started (g.B.Bank.family c.args.bank.now) (g.met.B.Bank.limits c.args.bank.now).few c.loop-part.part
    (cells_of c.loop-part.row.bytes) (omega arith) c.loop-part.invariant
