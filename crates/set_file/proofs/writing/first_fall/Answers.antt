use Rattle.std.proofs.Common.{◌≡◌, true, false, length, sym, rules, tests}
use Rattle.std.proofs.lemmas.Iterator.{first_from_Range}
use Rattle.set_file.specs.Writing.{rises}
use Rattle.set_file.proofs.Seeking.{seek_from}
use Rattle.set_file.proofs.writing.first_fall.Goals as goal

pub returns : goal.returns
returns c =
    let rows = c.args.rows.now in
    sym (seek_from (rises rows) 1 (length rows) c.find.result
    (first_from_Range _ _ _ _ (λ k. rises rows k ≡ false) (λ k. rises rows k ≡ true) c.find.ensures.ran (λ x q k. search (rules, tests)) (λ x q k. search (rules, tests))))
