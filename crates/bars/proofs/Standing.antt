-- The bars that stand, one after another.
use Rattle.std.proofs.Common.{◌≡◌, ◌||◌, List, [], ◌∷◌, Decides, refl, ap}
use Rattle.std.specs.List.{ContainsAt as Has, list_any}
use Rattle.std.proofs.lemmas.Bool.Decides.{Decides-by_or}
use Rattle.bars.specs.Bars.{same_bar, stands}
use Rattle.bars.specs.Meaning.{conditions_of, all_conditions}
use Rattle.bars.specs.declared.bar.Bar.{Bar}
use Rattle.bars.specs.declared.condition.Condition.{Condition}
use Rattle.bars.proofs.Same.{same_decides}

pub stands_decides : (bars : List (List Condition)) (cs : List Condition) → Decides (stands bars cs) (Has bars cs)
stands_decides bars cs =
    Decides-by_or (λ b. same_bar b cs) (λ b. b ≡ cs) (λ bs. stands bs cs) (λ b. same_decides b cs) refl (λ _ _. refl) bars

-- a bar with these conditions is any of the bars in memory
pub any_stands : (bars : List Bar) (cs : List Condition) →
    list_any (λ b. same_bar (conditions_of b) cs) bars ≡ stands (all_conditions bars) cs
any_stands [] cs = refl
any_stands (b ∷ bars) cs = ap (λ z. same_bar (conditions_of b) cs || z) (any_stands bars cs)
