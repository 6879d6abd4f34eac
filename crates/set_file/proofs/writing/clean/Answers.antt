use Rattle.std.proofs.Common.{◌≡◌, ◌-◌, length, take, drop, eqb, ap, ◌∙◌, arith, length-drop, rules, tests}
use Rattle.std.proofs.lemmas.Iterator.{YieldsList-from_slice}
use Rattle.std.proofs.lemmas.Iterator.Search.{all_from_yields_List}
use Rattle.std.proofs.lemmas.List.{take_all}
use Rattle.set_file.specs.Writing.{zeros}
use Rattle.set_file.proofs.writing.clean.Goals as goal

pub returns-clause-clean : goal.returns-clause-clean
returns-clause-clean c =
    let bytes = c.args.row.now.bytes in
    let w = c.args.width in
    let long : length c.args.row.now.bytes ≡ 48 = search rules in
    all_from_yields_List (λ b. eqb b 0) _ _ _ c.all.ensures.ran (YieldsList-from_slice (take (48 - w) (drop w bytes)) cc) (λ x b q k. search (rules, tests))
    ∙ ap zeros (take_all (48 - w) (drop w bytes) (simp length-drop (omega arith)))
