use Rattle.std.proofs.Common.{◌≡◌, ◌+◌, ◌-◌, refl, arith, rules}
use Rattle.stepping.specs.RowBytes.{cells_of}
use Rattle.wiring.specs.Meaning.{wiring_of}
use Rattle.reasons.proofs.Walks.{begins, goes_on, ends_short, ends_there, ends_unread}
use Rattle.reasons.proofs.walking.walk_to.Goals as goal

pub loop-k-init : goal.loop-k-init
loop-k-init g c = λ n e.
    let same : n ≡ c.args.steps = omega arith in
    rw same
    (begins (g.B.Bank.family c.args.bank.now) (g.met.B.Bank.limits c.args.bank.now) (wiring_of c.args.wiring.now)
    c.args.steps c.args.body.now (cells_of c.start-row.result.bytes) c.start-row.ensures)

pub loop-k-preserved : goal.loop-k-preserved
loop-k-preserved g c = λ n e.
    let same : (n + 1) - 1 ≡ n = omega arith in
    rw same at
    (goes_on (g.B.Bank.family c.args.bank.now) (g.met.B.Bank.limits c.args.bank.now) (wiring_of c.args.wiring.now)
    c.args.steps c.args.body.now (n + 1) (cells_of c.loop-k.row.bytes) c.loop-k.left.now (c.loop-k.invariant (n + 1) (omega arith))
    c.in-Some.a (cells_of c.step.new.row.bytes) (omega arith) (search rules) c.in-Some.ensures c.step.ensures)

pub returns : goal.returns
returns g c =
    ends_there (g.B.Bank.family c.args.bank.now) (g.met.B.Bank.limits c.args.bank.now) (wiring_of c.args.wiring.now)
    c.args.steps c.args.body.now 0 (cells_of c.loop-k.row.bytes) c.loop-k.left.now (c.loop-k.invariant 0 (omega arith)) refl

pub returns-in_default : goal.returns-in_default
returns-in_default g c =
    let n = c.args.steps - c.loop-k._k in
    ends_short (g.B.Bank.family c.args.bank.now) (g.met.B.Bank.limits c.args.bank.now) (wiring_of c.args.wiring.now)
    c.args.steps c.args.body.now n (cells_of c.loop-k.row.bytes) c.loop-k.left.now (c.loop-k.invariant n (omega arith))
    (search rules)

pub returns-in_default-move_of : goal.returns-in_default-move_of
returns-in_default-move_of g c =
    let n = c.args.steps - c.loop-k._k in
    ends_unread (g.B.Bank.family c.args.bank.now) (g.met.B.Bank.limits c.args.bank.now) (wiring_of c.args.wiring.now)
    c.args.steps c.args.body.now n (cells_of c.loop-k.row.bytes) c.loop-k.left.now (c.loop-k.invariant n (omega arith))
    (omega arith) (search rules) (search rules)
