use Rattle.std.proofs.Common.{◌-◌, sym, ap, ◌∙◌}
use Rattle.fddevs.specs.declared.refusal.Layer.TheVariants.{Proof}
use Rattle.fddevs.specs.declared.refusal.Refusal.TheVariants.{RowOrder}
use Rattle.fddevs.specs.Vetting.{found, seek}
use Rattle.set_file.specs.Layout.{width, row_count}
use Rattle.set_file.specs.Reading.{climbs}
use Rattle.judging.proofs.Members.{some_of, same_width, first_out_of_order}
use Rattle.judging.proofs.set.Candidate.vet_order.Goals as goal

pub returns-in-None : goal.returns-in-None
returns-in-None g c =
    let x = c.args.self.now in
    let F = g.B.Bank.family x.bank.now in
    let body = x.rows.body.now in
    let wide = same_width F.count (some_of F (g.met.B.Bank.limits x.bank.now)) x.rows body x.parts in
    ap (found (RowOrder Proof))
    (c.in-None.ensures ∙ ap (λ w. seek (climbs w body) 1 (row_count w body - 1)) wide
    ∙ sym (first_out_of_order F.count body (row_count (width F.count) body)))

pub returns-in-Some : goal.returns-in-Some
returns-in-Some g c =
    let x = c.args.self.now in
    let F = g.B.Bank.family x.bank.now in
    let body = x.rows.body.now in
    let wide = same_width F.count (some_of F (g.met.B.Bank.limits x.bank.now)) x.rows body x.parts in
    ap (found (RowOrder Proof))
    (c.in-Some.ensures ∙ ap (λ w. seek (climbs w body) 1 (row_count w body - 1)) wide
    ∙ sym (first_out_of_order F.count body (row_count (width F.count) body)))
