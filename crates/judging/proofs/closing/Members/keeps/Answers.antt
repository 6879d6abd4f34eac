use Rattle.std.proofs.Common.{◌≤◌, not, ◌||◌, length, take, ap, ◌∙◌, arith}
use Rattle.fddevs.specs.Rows.{row_after}
use Rattle.fddevs.specs.Scheme.{scheme}
use Rattle.stepping.specs.RowBytes.{cells_of}
use Rattle.stepping.proofs.Bytes.{sixteen_cells}
use Rattle.stepping.proofs.Fronts.{take_after}
use Rattle.wiring.specs.Meaning.{wiring_of}
use Rattle.proof_rules.specs.Judging.{rows_in, among}
use Rattle.judging.proofs.closing.Members.keeps.Goals as goal

pub returns : goal.returns
returns g c =
    let S = c.args.self.now.scheme in
    let F = g.B.Bank.family S.bank.now in
    let W = wiring_of S.wiring.now in
    let few = (g.met.B.Bank.limits S.bank.now).few in
    let cs = cells_of c.args.row.now.bytes in
    let rows = rows_in F.count c.args.self.now.rows.body.now in
    let long : F.count ≤ length cs = omega (arith, sixteen_cells c.args.row.now.bytes c.know_row.ensures.whole) in
    let next = ap (take F.count) c.step.ensures ∙ take_after F W cs long c.args.a in
    c.has.ensures ∙ ap (among rows) next
    ∙ ap (λ b. not b || among rows (row_after (scheme F W) (take F.count cs) c.args.a)) c.if-not-allows.ensures
