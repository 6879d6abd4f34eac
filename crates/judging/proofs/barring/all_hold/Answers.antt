use Rattle.std.proofs.Common.{take, ◌∙◌, rules}
use Rattle.std.proofs.lemmas.Iterator.{YieldsList-from_slice}
use Rattle.std.proofs.lemmas.Iterator.Search.{all_from_yields_List}
use Rattle.bars.specs.Bars.{is_in}
use Rattle.stepping.specs.RowBytes.{cells_of}
use Rattle.proof_rules.specs.Rules.{row_phases}
use Rattle.judging.proofs.Barred.{all_held}
use Rattle.judging.proofs.barring.all_hold.Goals as goal

pub returns : goal.returns
returns g c =
    let phases = row_phases (take (g.B.Bank.family c.args.bank.now).count (cells_of c.args.row.now.bytes)) in
    all_from_yields_List (λ x. is_in phases x.part x.phase) _ _ c.all.result c.all.ensures.ran
    (YieldsList-from_slice c.args.conditions.now (search rules)) (λ x b q k. search rules)
    ∙ all_held phases c.args.conditions.now
