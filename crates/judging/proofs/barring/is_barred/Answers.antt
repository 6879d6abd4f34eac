use Rattle.std.proofs.Common.{take, ◌∙◌, rules}
use Rattle.std.proofs.lemmas.Iterator.{YieldsList-from_slice}
use Rattle.std.proofs.lemmas.Iterator.Search.{any_from_yields_List}
use Rattle.bars.specs.Bars.{holds}
use Rattle.bars.specs.Meaning.{conditions_of}
use Rattle.stepping.specs.RowBytes.{cells_of}
use Rattle.proof_rules.specs.Rules.{row_phases}
use Rattle.judging.proofs.Barred.{any_barred}
use Rattle.judging.proofs.barring.is_barred.Goals as goal

pub returns : goal.returns
returns g c =
    let phases = row_phases (take (g.B.Bank.family c.args.bank.now).count (cells_of c.args.row.now.bytes)) in
    any_from_yields_List (λ b. holds (conditions_of b) phases) _ _ c.any.result c.any.ensures.ran
    (YieldsList-from_slice c.args.bars.now (search rules)) (λ x b q k. search rules)
    ∙ any_barred phases c.args.bars.now
