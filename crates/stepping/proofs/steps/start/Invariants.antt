use Rattle.std.proofs.Common.{replicate}
use Rattle.stepping.specs.RowBytes.{cells_of}
use Rattle.stepping.specs.Stepping.{no_cell}
use Rattle.stepping.proofs.Made.{Made}
use Rattle.stepping.proofs.Moves.{begun}
use Rattle.stepping.proofs.steps.start.Given as goal

abbrev pub invariant-loop-part : goal.invariant-loop-part
invariant-loop-part g l =
    Made (λ i _. begun (g.B.Bank.family l.bank) i) l.part (replicate 16 no_cell) (cells_of l.row.bytes)
