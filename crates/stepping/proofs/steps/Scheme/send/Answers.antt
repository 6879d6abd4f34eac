use Rattle.wiring.specs.Meaning.{wiring_of}
use Rattle.stepping.specs.RowBytes.{cells_of}
use Rattle.stepping.proofs.Feeding.{given_by, feed_next, feed_end, feed_from, lone_wires}
use Rattle.stepping.proofs.steps.Scheme.send.Goals as goal

pub loop-wire-preserved : goal.loop-wire-preserved
loop-wire-preserved g c =
    let F = g.B.Bank.family c.args.self.now.bank.now in
    let ws = c.from_source-wires.result.now in
    feed_next F ws c.loop-wire.wire-index (cells_of c.loop-wire.row.bytes)
    (given_by F ws (cells_of c.args.row.now.bytes)) c.loop-wire.invariant (cells_of c.feed.new.row.bytes)
    c.loop-wire-test.true
    (lone_wires c.args.self.now.wiring.now c.args.source c.args.output ws c.from_source-wires.ensures)
    c.feed.ensures

pub returns : goal.returns
returns g c =
    let F = g.B.Bank.family c.args.self.now.bank.now in
    let ws = c.from_source-wires.result.now in
    let cs = cells_of c.args.row.now.bytes in
    let ds = cells_of c.loop-wire.row.bytes in
    feed_from F (wiring_of c.args.self.now.wiring.now) c.args.source c.args.output ws cs ds
    (feed_end F ws c.loop-wire.wire-index ds (given_by F ws cs) c.loop-wire.invariant c.loop-wire-test.false)
    c.from_source-wires.ensures
