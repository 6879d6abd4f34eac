use Rattle.std.proofs.Common.{◌<◌, sym, ap, ◌∙◌, arith, below_more}
use Rattle.fddevs.specs.declared.refusal.Refusal.TheVariants.{RowLeaves}
use Rattle.fddevs.specs.Scheme.{scheme}
use Rattle.wiring.specs.Meaning.{wiring_of}
use Rattle.proof_rules.specs.Judging.{row_at, rows_in, all_stay}
use Rattle.judging.proofs.Loaded.{loaded_row, found_at, found_nowhere}
use Rattle.judging.proofs.Members.{some_of}
use Rattle.judging.proofs.closing.Members.vet_steps.Goals as goal

pub returns-then-not-keeps_all : goal.returns-then-not-keeps_all
returns-then-not-keeps_all g c =
    let m = c.args.self.now in
    let F = g.B.Bank.family m.scheme.bank.now in
    let S = scheme F (wiring_of m.scheme.wiring.now) in
    let some = some_of F (g.met.B.Bank.limits m.scheme.bank.now) in
    let body = m.rows.body.now in
    let k = c.loop-k.k in
    let here : k < m.rows.count = omega (arith, c.count-k-end.ensures) in
    let row = loaded_row F.count some body m.rows m.parts k c.loop-k.from.bytes c.load.new.row.bytes here c.load.ensures in
    let test = ap (all_stay S (rows_in F.count body)) (sym row) ∙ sym c.if-not-keeps_all.ensures in
    found_at F.count some body m.rows m.parts (λ j. all_stay S (rows_in F.count body) (row_at F.count body j)) RowLeaves k
    here c.loop-k.invariant test

pub loop-k-preserved : goal.loop-k-preserved
loop-k-preserved g c =
    let m = c.args.self.now in
    let F = g.B.Bank.family m.scheme.bank.now in
    let S = scheme F (wiring_of m.scheme.wiring.now) in
    let some = some_of F (g.met.B.Bank.limits m.scheme.bank.now) in
    let body = m.rows.body.now in
    let k = c.loop-k.k in
    let row = loaded_row F.count some body m.rows m.parts k c.loop-k.from.bytes c.load.new.row.bytes
    (omega (arith, c.count-k-end.ensures)) c.load.ensures in
    below_more _ _ c.loop-k.invariant (ap (all_stay S (rows_in F.count body)) (sym row) ∙ sym c.if-not-keeps_all.ensures)

pub returns : goal.returns
returns g c =
    let m = c.args.self.now in
    let F = g.B.Bank.family m.scheme.bank.now in
    let S = scheme F (wiring_of m.scheme.wiring.now) in
    let some = some_of F (g.met.B.Bank.limits m.scheme.bank.now) in
    let body = m.rows.body.now in
    found_nowhere F.count some body m.rows m.parts (λ j. all_stay S (rows_in F.count body) (row_at F.count body j)) RowLeaves
    c.loop-k.k (omega (arith, c.count-k-end.ensures)) c.loop-k.invariant
