use Rattle.std.proofs.Common.{◌≡◌, true, false, rules, tests}
use Rattle.std.proofs.lemmas.Iterator.{first_from_Range}
use Rattle.set_file.specs.Rows.{climbs_at}
use Rattle.set_file.proofs.Numbered.{first_that_falls}
use Rattle.set_file.proofs.rows.Rows.first_fall.Goals as goal

pub returns : goal.returns
returns c =
    let rows = c.args.self.now in
    let climbs = climbs_at rows.width rows.body.now rows.count in
    let first = first_from_Range _ _ _ c.find.result (λ k. climbs k ≡ false) (λ k. climbs k ≡ true) c.find.ensures.ran (λ x q k. search (rules, tests)) (λ x q k. search (rules, tests)) in
    first_that_falls rows.width rows.body.now rows.count _ rows.counted first
