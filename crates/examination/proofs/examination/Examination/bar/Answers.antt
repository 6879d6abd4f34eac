use Rattle.history.specs.History.{bar_call}
use Rattle.examination.proofs.Led.{leads_by}
use Rattle.examination.proofs.examination.Examination.bar.Goals as goal

pub returns-clause-leads : goal.returns-clause-leads
returns-clause-leads g c =
    leads_by g.B.Bank.family c.args.self.now (record { bank = c.args.self.now.bank; state = c.take_bar.new.self }) (bar_call c.args.conditions.now c.take_bar.result)
    c.take_bar.ensures.state c.take_bar.ensures.answer
