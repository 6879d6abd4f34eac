use Rattle.std.proofs.Common.{arith}
use Rattle.lookup.proofs.Search.{anywhere, if_less, if_greater, found_here}
use Rattle.lookup.proofs.finding.find.Goals as goal

pub downward-requires : goal.downward-requires
downward-requires c = record { within = omega arith; narrowed = anywhere c.args.rows.now c.args.row.now _ (omega arith) }

pub upward-requires-clause-narrowed : goal.upward-requires-clause-narrowed
upward-requires-clause-narrowed c =
    let rows = c.args.rows.now in
    if_less rows c.args.row.now _ _ c.args.hint (anywhere rows c.args.row.now rows.count (omega arith)) (omega arith) c.in-Less.ensures

pub downward-requires-in-Greater-clause-narrowed : goal.downward-requires-in-Greater-clause-narrowed
downward-requires-in-Greater-clause-narrowed c =
    let rows = c.args.rows.now in
    if_greater rows c.args.row.now _ _ c.args.hint (anywhere rows c.args.row.now rows.count (omega arith)) c.in-Greater.ensures

pub returns-in-Equal : goal.returns-in-Equal
returns-in-Equal c = found_here c.args.rows.now c.args.row.now c.args.hint (omega arith) c.in-Equal.ensures
