use Rattle.judging.proofs.Loaded.{loaded_row}
use Rattle.judging.proofs.Members.{some_of}
use Rattle.judging.proofs.set.Candidate.nth.Goals as goal

pub returns : goal.returns
returns g c =
    let x = c.args.self.now in
    let F = g.B.Bank.family x.bank.now in
    loaded_row F.count (some_of F (g.met.B.Bank.limits x.bank.now)) x.rows.body.now x.rows x.parts c.args.k _
    c.load.new.row.bytes c.requires c.load.ensures
