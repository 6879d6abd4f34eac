use Rattle.std.proofs.Common.{sym, subst}
use Rattle.fddevs.specs.Vetting.{Tells}
use Rattle.scheme_file.specs.Faults.{Fault}
use Rattle.scheme_file.proofs.Told.{vetting_tells}
use Rattle.scheme_file.proofs.vetting.vet.Goals as goal

pub returns : goal.returns
returns c =
    let f = c.args.file.now in
    record { answer = c.check_all.ensures; tells = subst (Tells (Fault f)) (sym c.check_all.ensures) (vetting_tells f) }
