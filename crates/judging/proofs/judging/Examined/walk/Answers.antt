use Rattle.std.proofs.Common.{rules}
use Rattle.bars.specs.Meaning.{all_conditions}
use Rattle.stepping.specs.RowBytes.{cells_of}
use Rattle.wiring.specs.Meaning.{wiring_of}
use Rattle.judging.proofs.Steps.{walk_begins, walk_more}
use Rattle.judging.proofs.judging.Examined.walk.Goals as goal

pub loop-left-init : goal.loop-left-init
loop-left-init g c =
    let S = c.args.self.now.scheme in
    walk_begins (g.B.Bank.family S.bank.now) (g.met.B.Bank.limits S.bank.now) (wiring_of S.wiring.now)
    (all_conditions c.args.self.now.bars.now) c.args.body.now (cells_of c.start-row.result.bytes) c.start-row.ensures

pub loop-left-preserved : goal.loop-left-preserved
loop-left-preserved g c =
    let S = c.args.self.now.scheme in
    walk_more (g.B.Bank.family S.bank.now) (g.met.B.Bank.limits S.bank.now) (wiring_of S.wiring.now)
    (all_conditions c.args.self.now.bars.now) c.args.body.now c.loop-left.taken (cells_of c.loop-left.row.bytes)
    c.loop-left.left.now c.loop-left.invariant c.in-Some.a (cells_of c.step.new.row.bytes) (search rules)
    c.in-Some.ensures c.if-not-allows.ensures c.step.ensures
