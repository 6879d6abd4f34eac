use Rattle.std.proofs.Common.{◌≡◌, ℕ, Bool, true, false, ap, ◌∙◌, rules}
use Rattle.std.proofs.lemmas.Iterator.{first_from_Range}
use Rattle.fddevs.specs.Vetting.{seek}
use Rattle.fddevs.proofs.Ranges.{first_is}
use Rattle.stepping.specs.RowBytes.{cells_of}
use Rattle.reasons.specs.Parts.{has_its_phase}
use Rattle.reasons.proofs.parts.missing_phase.Goals as goal

pub returns : goal.returns
returns g c =
    let t : ℕ → Bool = has_its_phase (g.B.Bank.family c.args.bank.now) (cells_of c.args.row.now.bytes) in
    first_is t c.part_count.result c.find.result
    (first_from_Range _ _ _ c.find.result (λ k. t k ≡ false) (λ k. t k ≡ true) c.find.ensures.ran (λ k q h. search rules) (λ k q h. search rules))
    ∙ ap (seek t 0) c.part_count.ensures
