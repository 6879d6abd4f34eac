use Rattle.std.proofs.Common.{◌≡◌, true, false, take, rules}
use Rattle.std.proofs.lemmas.Iterator.{YieldsList-from_slice, IsFirst-from_position}
use Rattle.bars.specs.Bars.{holds}
use Rattle.bars.specs.Meaning.{conditions_of}
use Rattle.stepping.specs.RowBytes.{cells_of}
use Rattle.proof_rules.specs.Rules.{row_phases}
use Rattle.reasons.proofs.Bars.{holding_is}
use Rattle.reasons.proofs.holding.holding.Goals as goal

pub returns : goal.returns
returns g c =
    let phases = row_phases (take (g.B.Bank.family c.args.bank.now).count (cells_of c.args.row.now.bytes)) in
    let bars = c.args.bars.now in
    holding_is phases bars c.position.result
    (IsFirst-from_position _ _ c.position.result (λ b. holds (conditions_of b) phases ≡ true) (λ b. holds (conditions_of b) phases ≡ false)
    c.position.ensures.ran (YieldsList-from_slice bars (search rules)) (λ x q h. search rules) (λ x q h. search rules))
