use Rattle.std.proofs.Common.{◌≡◌, Bool, false, take, sym, ap, ◌∙◌, arith}
use Rattle.fddevs.specs.declared.scheme.Move.{Move}
use Rattle.fddevs.specs.Scheme.{scheme}
use Rattle.fddevs.proofs.Vetting.{below_true, below_false}
use Rattle.stepping.specs.RowBytes.{cells_of}
use Rattle.wiring.specs.Meaning.{wiring_of}
use Rattle.proof_rules.specs.Judging.{rows_in, stays}
use Rattle.judging.proofs.closing.Members.keeps_each.Goals as goal

pub returns-then-not-keeps : goal.returns-then-not-keeps
returns-then-not-keeps g c = λ m same.
    let S = c.args.self.now.scheme in
    let F = g.B.Bank.family S.bank.now in
    let t : Move → Bool = stays (scheme F (wiring_of S.wiring.now)) (rows_in F.count c.args.self.now.rows.body.now) (take F.count (cells_of c.args.row.now.bytes)) in
    let fails : t (m c.loop-x.x) ≡ false = ap t (sym (same c.loop-x.x c.step.result c.step.ensures)) ∙ sym c.keeps.ensures ∙ c.if-not-keeps.true in
    sym (below_false (λ x. t (m x)) c.args.count c.loop-x.x (omega arith) fails)

pub returns : goal.returns
returns g c = λ m same.
    let S = c.args.self.now.scheme in
    let F = g.B.Bank.family S.bank.now in
    let t : Move → Bool = stays (scheme F (wiring_of S.wiring.now)) (rows_in F.count c.args.self.now.rows.body.now) (take F.count (cells_of c.args.row.now.bytes)) in
    sym (below_true (λ x. t (m x)) c.args.count (λ j h. c.loop-x.invariant m same j (omega arith)))
