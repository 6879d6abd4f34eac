use Rattle.std.proofs.Common.{rules, ◌≡◌, Bool, true, ap, ap₂, ◌∙◌, sym, length, take, ◌&&◌}
use Rattle.fddevs.specs.Vetting.{all_below}
use Rattle.fddevs.specs.declared.scheme.Move.{Move}
use Rattle.stepping.specs.RowBytes.{cells_of}
use Rattle.proof_rules.specs.Judging.{rows_in, stays}
use Rattle.fddevs.specs.declared.scheme.Move.TheVariants.{Outer, Internal, Delay}
use Rattle.fddevs.specs.Scheme.{scheme}
use Rattle.stepping.proofs.Made.{count_parts}
use Rattle.wiring.specs.Meaning.{wiring_of}
use Rattle.judging.proofs.closing.Members.keeps_all.Goals as goal

pub returns-then-not-keeps_each : goal.returns-then-not-keeps_each
returns-then-not-keeps_each g c =
    let outer = c.keeps_each.ensures Outer (λ x a e. search rules) in
    search rules

pub returns : goal.returns
returns g c =
    let x = c.args.self.now in
    let F = g.B.Bank.family x.scheme.bank.now in
    let W = wiring_of x.scheme.wiring.now in
    let t : Move → Bool = stays (scheme F W) (rows_in F.count x.rows.body.now) (take F.count (cells_of c.args.row.now.bytes)) in
    let outer = c.keeps_each.ensures Outer (λ x a e. search rules) in
    let inner = c.keeps_each-2.ensures Internal (λ x a e. search rules) in
    let one : t (Delay 1) ≡ true = sym c.keeps.ensures ∙ c.if-not-keeps.false in
    let each : all_below (λ k. t (Outer k)) W.outer_inputs ≡ true =
    ap (all_below (λ k. t (Outer k))) (sym c.outer_inputs-inputs.ensures) ∙ sym outer ∙ c.if-not-keeps_each.false in
    inner ∙ ap (all_below (λ p. t (Internal p))) (c.part_count-parts.ensures ∙ sym (count_parts F W))
    ∙ sym (ap₂ (λ a b. a && (b && all_below (λ p. t (Internal p)) (length (scheme F W).parts))) one each)
