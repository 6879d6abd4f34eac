use Rattle.std.proofs.Common.{sym, subst}
use Rattle.fddevs.specs.Vetting.{Tells}
use Rattle.timers.specs.Faults.{Fault}
use Rattle.timers.proofs.Told.{vetting_tells}
use Rattle.timers.proofs.vetting.vet.Goals as goal

pub returns : goal.returns
returns c =
    let ts = c.args.settings.now in
    record { answer = c.check_all.ensures; tells = subst (Tells (Fault ts)) (sym c.check_all.ensures) (vetting_tells ts) }
