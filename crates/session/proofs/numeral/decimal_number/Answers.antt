use Rattle.std.proofs.Common.{◌≡◌, ℕ, List, [], ◌∷◌, length, eqb, false, Some, fold, refl, rules, ◌∙◌}
use Rattle.std.proofs.lemmas.Bool.{false≢true}
use Rattle.std.proofs.lemmas.Iterator.{YieldsList-from_slice}
use Rattle.session.specs.Numerals.{more, decimal}
use Rattle.session.proofs.Stopped.{from_try_fold}
use Rattle.session.proofs.numeral.decimal_number.Goals as goal

of_some : (bs : List ℕ) → false ≡ eqb (length bs) 0 → fold more (Some 0) bs ≡ decimal bs
of_some [] h = absurd (false≢true h)
of_some (b ∷ bs) h = refl

pub returns : goal.returns
returns c =
    from_try_fold _ _ _ _ more _ (λ _. refl) (λ a x r q k. search rules) 0 _ _ _ _ c.try_fold.ensures.ran (YieldsList-from_slice c.args.text.now cc)
    ∙ of_some c.args.text.now c.if-is_empty.ensures
