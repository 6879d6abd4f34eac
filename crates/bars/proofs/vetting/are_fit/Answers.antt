use Rattle.std.proofs.Common.{length, rules}
use Rattle.fddevs.proofs.Ranges.{all_of_range}
use Rattle.bars.specs.Vetting.{fits}
use Rattle.bars.proofs.vetting.are_fit.Goals as goal

pub returns : goal.returns
returns g c =
    let cs = c.args.conditions.now in
    all_of_range (fits (g.B.Bank.family c.args.bank.now) cs) (length cs) _ _ _ (search rules) c.all.ensures.ran
    (λ x b q k. search rules)
