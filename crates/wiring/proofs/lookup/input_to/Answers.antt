use Rattle.std.proofs.Common.{eqb, ◌∙◌, rules}
use Rattle.std.proofs.lemmas.Iterator.{YieldsList-from_slice}
use Rattle.std.proofs.lemmas.Iterator.Search.{find_from_yields_List}
use Rattle.wiring.proofs.Orders.{found_to}
use Rattle.wiring.proofs.lookup.input_to.Goals as goal

pub returns-in_err-find : goal.returns-in_err-find
returns-in_err-find c =
    c.from_residual.ensures
    ∙ found_to c.args.target c.args.wires.now c.find.result _ c.in_err-find.was
    (find_from_yields_List (λ w. eqb w.target c.args.target) _ _ c.find.result c.find.ensures.ran
    (YieldsList-from_slice c.args.wires.now (search rules)) (λ x b q k. search rules))

pub returns : goal.returns
returns c =
    found_to c.args.target c.args.wires.now c.find.result _ c.in_ok-find.was
    (find_from_yields_List (λ w. eqb w.target c.args.target) _ _ c.find.result c.find.ensures.ran
    (YieldsList-from_slice c.args.wires.now (search rules)) (λ x b q k. search rules))
