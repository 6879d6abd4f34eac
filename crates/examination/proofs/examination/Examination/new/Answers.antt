use Rattle.std.proofs.Common.{[], sym, subst}
use Rattle.history.specs.Held.{Held}
use Rattle.history.specs.Led.{Led, begins}
use Rattle.examination.proofs.examination.Examination.new.Goals as goal

pub returns-clause-led : goal.returns-clause-led
returns-clause-led g c =
    subst (λ (x : Held). Led (g.B.Bank.family c.args.bank) [] x) (sym c.begin.ensures) begins
