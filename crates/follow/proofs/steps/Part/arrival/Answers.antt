use Rattle.follow.proofs.Exact.{lasts}
use Rattle.follow.proofs.steps.Part.arrival.Goals as goal

pub returns-in_err-lifespan : goal.returns-in_err-lifespan
returns-in_err-lifespan g c =
    absurd
    (lasts (g.B.Bank.family c.args.self.now.bank.now) (g.met.B.Bank.limits c.args.self.now.bank.now) c.args.self.now.number
    c.args.phase c.args.input c.in_ok-external.external c.in_ok-external.ensures
    c.in_err-lifespan.ensures)
