use Rattle.std.proofs.Common.{arith}
use Rattle.lookup.proofs.Search.{if_less, if_greater, found_here, found_none}
use Rattle.lookup.proofs.finding.Search.bisect.Goals as goal

pub loop-low-preserved-in-Less : goal.loop-low-preserved-in-Less
loop-low-preserved-in-Less c =
    (omega arith, omega arith, if_less c.args.self.rows c.args.self.row.now _ _ _ c.loop-low.invariant.2 (omega arith) c.in-Less.ensures)

pub returns-in-Equal : goal.returns-in-Equal
returns-in-Equal c = found_here c.args.self.rows c.args.self.row.now _ (omega arith) c.in-Equal.ensures

pub loop-low-preserved : goal.loop-low-preserved
loop-low-preserved c =
    (omega arith, omega arith, if_greater c.args.self.rows c.args.self.row.now _ _ _ c.loop-low.invariant.2 c.in-Greater.ensures)

pub returns : goal.returns
returns c = found_none c.args.self.rows c.args.self.row.now _ _ c.loop-low.invariant.2 c.loop-low-test.false
