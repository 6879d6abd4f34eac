use Rattle.std.proofs.Common.{not, ap, ◌∙◌}
use Rattle.wiring.proofs.Apart.{beside}
use Rattle.wiring.proofs.check.Draft.is_apart.Goals as goal

pub returns-else-k-eq0 : goal.returns-else-k-eq0
returns-else-k-eq0 g c =
    ap not c.is_same_start.ensures
    ∙ beside c.args.self.now.wires.now c.requires.order c.args.k c.if-k-eq0.false c.requires.within
