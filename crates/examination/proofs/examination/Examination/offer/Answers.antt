use Rattle.std.proofs.Common.{Result, sym, subst}
use Rattle.std.proofs.ByRecursion.{All-drop}
use Rattle.fddevs.specs.declared.refusal.Refusal.{Refusal}
use Rattle.fddevs.specs.Vetting.{Tells}
use Rattle.history.specs.History.{offer_call}
use Rattle.proof_rules.specs.declared.evidence.Evidence.{Evidence}
use Rattle.proof_rules.specs.Faults.{Fault, vetting_of}
use Rattle.proof_rules.specs.Laws.{ByTheRules}
use Rattle.proof_rules.proofs.Judged.{judged_by_the_rules}
use Rattle.proof_rules.proofs.Refused.{judging_tells}
use Rattle.stepping.proofs.Typed.{typed_bytes}
use Rattle.examination.specs.Meaning.{held}
use Rattle.examination.proofs.Led.{leads_by}
use Rattle.examination.proofs.examination.Examination.offer.Goals as goal

pub returns-clause-exactly : goal.returns-clause-exactly
returns-clause-exactly g c =
    let x = c.args.self.now in
    let F = g.B.Bank.family x.bank in
    let file = c.args.file.now in
    subst (ByTheRules F (held x).wiring (held x).bars file) (sym c.take_proof.ensures.answer)
    (judged_by_the_rules F (g.met.B.Bank.limits x.bank) (held x).wiring (held x).bars file (typed_bytes file c.type_inv.file))

pub returns-clause-tells : goal.returns-clause-tells
returns-clause-tells g c =
    let x = c.args.self.now in
    let F = g.B.Bank.family x.bank in
    let file = c.args.file.now in
    subst (λ (r : Result Evidence Refusal). Tells (Fault F (held x).wiring (held x).bars file) (vetting_of r))
    (sym c.take_proof.ensures.answer)
    (judging_tells F (held x).wiring (held x).bars file (All-drop _ 6 file (typed_bytes file c.type_inv.file)))

pub returns-clause-leads : goal.returns-clause-leads
returns-clause-leads g c =
    leads_by g.B.Bank.family c.args.self.now (record { bank = c.args.self.now.bank; state = c.take_proof.new.self }) (offer_call c.args.file.now c.take_proof.result)
    c.take_proof.ensures.state (typed_bytes c.args.file.now c.type_inv.file, c.take_proof.ensures.answer)
