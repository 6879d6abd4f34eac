use Rattle.std.proofs.Common.{◌+◌, ◌-◌, take, drop, ap, subst, ◌∙◌}
use Rattle.wiring.specs.Wires.{Splits}
use Rattle.wiring.proofs.Orders.{stretched}
use Rattle.wiring.proofs.wires.Wiring.from_source.Goals as goal

pub returns : goal.returns
returns c =
    let x = c.args.self.now in
    let ws = take x.count x.table in
    let low = c.count_below-low.result in
    let count = c.count_from-count.result in
    ap (λ ws. take (low + count - low) (drop low ws)) c.wires.ensures
    ∙ stretched ws c.args.source c.args.output low (low + count)
    (subst (λ n. Splits ws c.args.source n low) c.from.ensures c.count_below-low.ensures) c.count_from-count.ensures
