use Rattle.std.proofs.Common.{sym, ◌∙◌, arith}
use Rattle.book.proofs.Bisection.{one_turn, met}
use Rattle.book.proofs.keeping.find.Goals as goal

pub loop-low-preserved-in-Less : goal.loop-low-preserved-in-Less
loop-low-preserved-in-Less g c =
    let t = one_turn g.T.Record.order c.args.item.now c.args.list.now c.args.count c.loop-low.low c.loop-low.high _ _ (omega arith) (omega arith) (omega arith) c.index-list-mid.is c.in-Less.ensures in
    (omega arith, omega arith, c.loop-low.invariant.2 ∙ t)

pub returns-in-Equal : goal.returns-in-Equal
returns-in-Equal g c =
    let t = one_turn g.T.Record.order c.args.item.now c.args.list.now c.args.count c.loop-low.low c.loop-low.high _ _ (omega arith) (omega arith) (omega arith) c.index-list-mid.is c.in-Equal.ensures in
    record { place = sym (c.loop-low.invariant.2 ∙ t); bound = omega arith }

pub loop-low-preserved : goal.loop-low-preserved
loop-low-preserved g c =
    let t = one_turn g.T.Record.order c.args.item.now c.args.list.now c.args.count c.loop-low.low c.loop-low.high _ _ (omega arith) (omega arith) (omega arith) c.index-list-mid.is c.in-Greater.ensures in
    (omega arith, omega arith, c.loop-low.invariant.2 ∙ t)

pub returns : goal.returns
returns g c =
    record {
      place = sym (c.loop-low.invariant.2 ∙ met g.T.Record.order c.args.item.now c.args.list.now c.args.count c.loop-low.low c.loop-low.high (omega arith));
      bound = omega arith;
    }
