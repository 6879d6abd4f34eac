use Rattle.judging.proofs.Members.{found_among, none_among, is_set}
use Rattle.judging.proofs.closing.Members.has.Goals as goal

pub returns-in-Some : goal.returns-in-Some
returns-in-Some g c =
    let m = c.args.self.now in
    let F = g.B.Bank.family m.scheme.bank.now in
    found_among F (g.met.B.Bank.limits m.scheme.bank.now) m.rows (is_set F m.rows m.parts m.bytes m.rising)
    c.args.row.now c.in-Some.place c.in-Some.ensures

pub returns-in-None : goal.returns-in-None
returns-in-None g c =
    let m = c.args.self.now in
    let F = g.B.Bank.family m.scheme.bank.now in
    none_among F (g.met.B.Bank.limits m.scheme.bank.now) m.rows (is_set F m.rows m.parts m.bytes m.rising)
    c.args.row.now c.know_row.ensures.bytes (c.in-None.ensures m.rising)
