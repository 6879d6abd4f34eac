use Rattle.std.proofs.Common.{◌≡◌, is_ok, Ok, ap, rules}
use Rattle.wiring.specs.Reading.{kept, draft}
use Rattle.wiring.specs.declared.rule.Rule.TheVariants.{Order}
use Rattle.wiring.proofs.Kept.{kept_ascends}
use Rattle.wiring.proofs.check.Draft.check.Goals as goal

pub check_rule-requires-2 : goal.check_rule-requires-2
check_rule-requires-2 g c =
    let x = c.args.self.now in
    let F = g.B.Bank.family x.bank.now in
    let W = draft x.outer x.wires.now in
    let passed : kept Order F W ≡ Ok tt = search rules in
    kept_ascends F W (ap is_ok passed)
