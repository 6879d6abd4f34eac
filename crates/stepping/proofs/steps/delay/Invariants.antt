use Rattle.fddevs.specs.Rows.{cell_delay}
use Rattle.stepping.specs.RowBytes.{cells_of}
use Rattle.stepping.proofs.Made.{Made}
use Rattle.stepping.proofs.steps.delay.Given as goal

abbrev pub invariant-loop-part : goal.invariant-loop-part
invariant-loop-part g l = Made (λ _ c. cell_delay l.d c) l.part (cells_of l.initial.row.bytes) (cells_of l.row.bytes)
