use Rattle.std.proofs.Common.{take, ap, ◌∙◌}
use Rattle.fddevs.specs.declared.refusal.Refusal.TheVariants.{StartAbsent}
use Rattle.fddevs.specs.Vetting.{unless}
use Rattle.stepping.proofs.Fronts.{take_start}
use Rattle.wiring.specs.Meaning.{no_wiring}
use Rattle.proof_rules.specs.Judging.{rows_in, among}
use Rattle.judging.proofs.closing.Members.vet_start.Goals as goal

pub returns-then-has : goal.returns-then-has
returns-then-has g c =
    let m = c.args.self.now in
    let F = g.B.Bank.family m.scheme.bank.now in
    let row = ap (take F.count) c.start-first.ensures ∙ take_start F no_wiring in
    ap (λ b. unless b StartAbsent) (c.if-has.ensures ∙ ap (among (rows_in F.count m.rows.body.now)) row)

pub returns-else-has : goal.returns-else-has
returns-else-has g c =
    let m = c.args.self.now in
    let F = g.B.Bank.family m.scheme.bank.now in
    let row = ap (take F.count) c.start-first.ensures ∙ take_start F no_wiring in
    ap (λ b. unless b StartAbsent) (c.if-has.ensures ∙ ap (among (rows_in F.count m.rows.body.now)) row)
