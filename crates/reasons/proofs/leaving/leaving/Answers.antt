use Rattle.std.proofs.Common.{refl, take, sym, ◌∙◌, subst, rules, None}
use Rattle.fddevs.specs.declared.scheme.Move.TheVariants.{Outer, Internal}
use Rattle.fddevs.specs.Scheme.{scheme}
use Rattle.stepping.specs.RowBytes.{cells_of}
use Rattle.stepping.proofs.Made.{count_parts}
use Rattle.wiring.specs.Meaning.{wiring_of}
use Rattle.proof_rules.specs.Judging.{rows_in}
use Rattle.reasons.specs.Leaving.{LeavesBy}
use Rattle.reasons.proofs.Departing.{leaves_last}
use Rattle.reasons.proofs.leaving.leaving.Goals as goal

pub returns-in-Some-first : goal.returns-in-Some-first
returns-in-Some-first g c = λ set. c.in-Some-first.ensures set Outer (λ x a e. search rules) (λ x. refl)

pub returns-in-None : goal.returns-in-None
returns-in-None g c = λ set.
    let F = g.B.Bank.family c.args.bank.now in
    let W = wiring_of c.args.wiring.now in
    let S = scheme F W in
    let rows = rows_in F.count c.args.rows.now.body.now in
    let r = take F.count (cells_of c.args.row.now.bytes) in
    leaves_last S rows r F.count (search rules)
    (subst (λ k. LeavesBy S rows r F.count Outer k None) c.outer_inputs.ensures (c.in-None.ensures set Outer (λ x a e. search rules) (λ x. refl)))
    c.first-in-None.result
    (subst (λ k. LeavesBy S rows r F.count Internal k c.first-in-None.result) (c.part_count.ensures ∙ sym (count_parts F W))
    (c.first-in-None.ensures set Internal (λ x a e. search rules) (λ x. refl)))
