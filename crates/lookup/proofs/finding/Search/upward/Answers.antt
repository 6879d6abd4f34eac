use Rattle.std.proofs.Common.{arith}
use Rattle.lookup.proofs.Search.{if_less, if_greater, found_here}
use Rattle.lookup.proofs.finding.Search.upward.Goals as goal

pub bisect-requires : goal.bisect-requires
bisect-requires c = record {
  ordered = omega arith;
  within = omega arith;
  narrowed = if_greater c.args.self.rows c.args.self.row.now _ _ _ c.loop-step.invariant.3 c.in-Greater.ensures;
}

pub returns-in-Equal : goal.returns-in-Equal
returns-in-Equal c = found_here c.args.self.rows c.args.self.row.now _ (omega arith) c.in-Equal.ensures

pub loop-step-preserved : goal.loop-step-preserved
loop-step-preserved c =
    let few = c.args.self.rows.few in
    (omega arith, omega arith, omega arith, if_less c.args.self.rows c.args.self.row.now _ _ _ c.loop-step.invariant.3 (omega arith) c.in-Less.ensures)
