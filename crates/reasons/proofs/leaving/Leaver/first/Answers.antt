use Rattle.std.proofs.Common.{take, arith}
use Rattle.fddevs.specs.Scheme.{scheme}
use Rattle.fddevs.proofs.Vetting.{below_true}
use Rattle.stepping.specs.RowBytes.{cells_of}
use Rattle.wiring.specs.Meaning.{wiring_of}
use Rattle.proof_rules.specs.Judging.{rows_in, stays}
use Rattle.reasons.proofs.leaving.Leaver.first.Goals as goal

pub returns : goal.returns
returns g c = λ set m same one.
    let S = c.args.self.now.scheme in
    let F = g.B.Bank.family S.bank.now in
    below_true
    (λ x. stays (scheme F (wiring_of S.wiring.now)) (rows_in F.count c.args.self.now.rows.now.body.now) (take F.count (cells_of c.args.self.now.row.now.bytes)) (m x))
    c.args.count (λ j h. c.loop-x.invariant set m same j (omega arith))
