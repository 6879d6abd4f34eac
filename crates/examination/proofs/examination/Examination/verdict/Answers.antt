use Rattle.examination.proofs.Led.{law_by}
use Rattle.examination.proofs.examination.Examination.verdict.Goals as goal

pub returns-clause-law : goal.returns-clause-law
returns-clause-law g c =
    let x = c.args.self.now in
    law_by g.B.Bank.family x (g.met.B.Bank.limits x.bank)
