use Rattle.std.proofs.Common.{take, ap, ◌∙◌}
use Rattle.wiring.specs.Wires.{input_to}
use Rattle.wiring.proofs.Orders.{wired_from}
use Rattle.wiring.proofs.wires.Wiring.input_at.Goals as goal

pub returns : goal.returns
returns c =
    let x = c.args.self.now in
    c.input_to.ensures ∙ ap (λ ws. input_to ws c.args.target) c.from_source.ensures
    ∙ wired_from c.args.source c.args.output c.args.target (take x.count x.table)
