use Rattle.std.proofs.Common.{◌≡◌, drop}
use Rattle.stepping.specs.RowBytes.{cells_of}
use Rattle.stepping.proofs.Feeding.{given_by}
use Rattle.stepping.proofs.steps.Scheme.send.Given as goal

-- what is left to feed gives what the whole gives
abbrev pub invariant-loop-wire : goal.invariant-loop-wire
invariant-loop-wire g l =
    given_by (g.B.Bank.family l.self.bank.now) (drop l.wire-index l.wires) (cells_of l.row.bytes)
    ≡ given_by (g.B.Bank.family l.self.bank.now) l.wires (cells_of l.initial.row.bytes)
