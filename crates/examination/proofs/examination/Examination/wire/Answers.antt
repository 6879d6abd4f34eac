use Rattle.history.specs.History.{wire_call}
use Rattle.stepping.proofs.Typed.{typed_bytes}
use Rattle.examination.proofs.Led.{leads_by}
use Rattle.examination.proofs.examination.Examination.wire.Goals as goal

pub returns-clause-leads : goal.returns-clause-leads
returns-clause-leads g c =
    leads_by g.B.Bank.family c.args.self.now (record { bank = c.args.self.now.bank; state = c.take_wiring.new.self }) (wire_call c.args.file.now c.take_wiring.result)
    c.take_wiring.ensures.state (typed_bytes c.args.file.now c.type_inv.file, c.take_wiring.ensures.answer)
