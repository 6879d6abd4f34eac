use Rattle.std.proofs.Common.{ap, ◌∙◌}
use Rattle.proof_rules.specs.Judging.{judgement}
use Rattle.wiring.specs.Meaning.{wiring_of}
use Rattle.examination.proofs.state.State.judged.Goals as goal

pub returns : goal.returns
returns g c =
    let x = c.args.self.now in
    c.judge.ensures.answer
    ∙ ap (λ bars. judgement (g.B.Bank.family c.args.bank.now) (wiring_of x.wiring) bars c.args.file.now) c.bars.ensures
