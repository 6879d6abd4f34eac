use Rattle.std.proofs.Common.{◌∙◌, rules}
use Rattle.std.proofs.lemmas.Iterator.{YieldsList-from_slice}
use Rattle.std.proofs.lemmas.Iterator.Search.{any_from_yields_List}
use Rattle.bars.specs.Bars.{same_bar}
use Rattle.bars.specs.Meaning.{conditions_of}
use Rattle.bars.proofs.Standing.{any_stands}
use Rattle.bars.proofs.vetting.is_standing.Goals as goal

pub returns : goal.returns
returns c =
    any_from_yields_List (λ b. same_bar (conditions_of b) c.args.conditions.now) _ _ _ c.any.ensures.ran
    (YieldsList-from_slice c.args.standing.now (search rules)) (λ x b q k. search rules)
    ∙ any_stands c.args.standing.now c.args.conditions.now
