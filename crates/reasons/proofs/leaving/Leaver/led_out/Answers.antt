use Rattle.std.proofs.Common.{◌≤◌, not, ◌||◌, length, take, sym, ap, ◌∙◌, arith}
use Rattle.fddevs.specs.Rows.{row_after}
use Rattle.fddevs.specs.Scheme.{scheme}
use Rattle.stepping.specs.RowBytes.{cells_of}
use Rattle.stepping.proofs.Bytes.{sixteen_cells}
use Rattle.stepping.proofs.Fronts.{take_after}
use Rattle.wiring.specs.Meaning.{wiring_of}
use Rattle.proof_rules.specs.Judging.{rows_in, among}
use Rattle.judging.proofs.Members.{found_among, none_among}
use Rattle.reasons.proofs.leaving.Leaver.led_out.Goals as goal

pub returns-in-Some : goal.returns-in-Some
returns-in-Some g c =
    let F = g.B.Bank.family c.args.self.now.scheme.bank.now in
    let W = wiring_of c.args.self.now.scheme.wiring.now in
    let limits = g.met.B.Bank.limits c.args.self.now.scheme.bank.now in
    let few = limits.few in
    let cs = cells_of c.args.self.now.row.now.bytes in
    let rows = rows_in F.count c.args.self.now.rows.now.body.now in
    let long : F.count ≤ length cs = omega (arith, sixteen_cells c.args.self.now.row.now.bytes c.know_row.ensures.whole) in
    let next = ap (take F.count) c.step.ensures ∙ take_after F W cs long c.args.a in
    λ set.
    sym (
    found_among F limits c.args.self.now.rows.now set c.step.new.row _ c.in-Some.ensures ∙ ap (among rows) next
    ∙ ap (λ b. not b || among rows (row_after (scheme F W) (take F.count cs) c.args.a)) c.if-not-allows.ensures)

pub returns-in-None : goal.returns-in-None
returns-in-None g c =
    let F = g.B.Bank.family c.args.self.now.scheme.bank.now in
    let W = wiring_of c.args.self.now.scheme.wiring.now in
    let limits = g.met.B.Bank.limits c.args.self.now.scheme.bank.now in
    let few = limits.few in
    let cs = cells_of c.args.self.now.row.now.bytes in
    let rows = rows_in F.count c.args.self.now.rows.now.body.now in
    let long : F.count ≤ length cs = omega (arith, sixteen_cells c.args.self.now.row.now.bytes c.know_row.ensures.whole) in
    let next = ap (take F.count) c.step.ensures ∙ take_after F W cs long c.args.a in
    λ set. record {
      allowed = sym c.if-not-allows.ensures;
      leads = next;
      missing =
          sym (
          none_among F limits c.args.self.now.rows.now set c.step.new.row c.know_row-2.ensures.bytes (c.in-None.ensures set.rising)
          ∙ ap (among rows) next);
    }
