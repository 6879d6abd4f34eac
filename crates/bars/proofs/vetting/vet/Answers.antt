use Rattle.std.proofs.Common.{◌≡◌, ◌↔◌, Ok, sym, subst}
use Rattle.fddevs.specs.Vetting.{Vetted, Tells}
use Rattle.bars.specs.Meaning.{all_conditions}
use Rattle.bars.specs.Rules.{KeepsBarRules, Fault}
use Rattle.bars.proofs.Told.{vetting_tells, accepts_exactly}
use Rattle.bars.proofs.vetting.vet.Goals as goal

pub returns : goal.returns
returns g c =
    let F = g.B.Bank.family c.args.bank.now in
    let bars = all_conditions c.args.standing.now in
    let cs = c.args.conditions.now in
    let same = sym c.check_all.ensures in
    record {
      answer = c.check_all.ensures;
      exactly = subst (λ (v : Vetted). (v ≡ Ok tt) ↔ KeepsBarRules F bars cs) same (accepts_exactly F bars cs);
      tells = subst (Tells (Fault F bars cs)) same (vetting_tells F bars cs);
    }
