use Rattle.std.proofs.Common.{Result, sym, subst}
use Rattle.std.proofs.ByRecursion.{All-drop}
use Rattle.fddevs.specs.declared.refusal.Refusal.{Refusal}
use Rattle.fddevs.specs.Vetting.{Tells}
use Rattle.bars.specs.Meaning.{all_conditions}
use Rattle.wiring.specs.Meaning.{wiring_of}
use Rattle.proof_rules.specs.declared.evidence.Evidence.{Evidence}
use Rattle.proof_rules.specs.Faults.{Fault, vetting_of}
use Rattle.proof_rules.specs.Laws.{ByTheRules}
use Rattle.proof_rules.proofs.Judged.{judged_by_the_rules}
use Rattle.proof_rules.proofs.Refused.{judging_tells}
use Rattle.stepping.proofs.Typed.{typed_bytes}
use Rattle.judging.proofs.judging.judge.Goals as goal

pub returns : goal.returns
returns g c =
    let F = g.B.Bank.family c.args.bank.now in
    let W = wiring_of c.args.wiring.now in
    let bars = all_conditions c.args.bars.now in
    let file = c.args.file.now in
    let bytes = typed_bytes file c.type_inv.file in
    record {
      answer = c.judge_file.ensures;
      exactly =
          subst (ByTheRules F W bars file) (sym c.judge_file.ensures)
          (judged_by_the_rules F (g.met.B.Bank.limits c.args.bank.now) W bars file bytes);
      tells =
          subst (λ (r : Result Evidence Refusal). Tells (Fault F W bars file) (vetting_of r)) (sym c.judge_file.ensures)
          (judging_tells F W bars file (All-drop _ 6 file bytes));
    }
