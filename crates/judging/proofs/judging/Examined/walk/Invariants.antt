use Rattle.std.proofs.Common.{length}
use Rattle.bars.specs.Meaning.{all_conditions}
use Rattle.stepping.specs.RowBytes.{cells_of}
use Rattle.wiring.specs.Meaning.{wiring_of}
use Rattle.judging.proofs.Steps.{Walking}
use Rattle.judging.proofs.judging.Examined.walk.Given as goal

abbrev pub invariant-loop-left : goal.invariant-loop-left
invariant-loop-left g l =
    let S = l.self.scheme in
    Walking (g.B.Bank.family S.bank.now) (g.met.B.Bank.limits S.bank.now) (wiring_of S.wiring.now)
    (all_conditions l.self.bars.now) l.body l.taken (cells_of l.row.bytes) l.left

abbrev pub decreases-loop-left : goal.decreases-loop-left
decreases-loop-left g l = length l.left
