-- The conditions of a bar, and the bars.
use Rattle.std.proofs.Common.{◌≡◌, ℕ, ◌&&◌, ◌||◌, List, [], ◌∷◌, refl, ap}
use Rattle.std.specs.List.{list_all, list_any}
use Rattle.bars.specs.Bars.{is_in, holds, barred}
use Rattle.bars.specs.Meaning.{conditions_of, all_conditions}
use Rattle.bars.specs.declared.bar.Bar.{Bar}
use Rattle.bars.specs.declared.condition.Condition.{Condition}

pub all_held : (phases : List ℕ) (cs : List Condition) → list_all (λ c. is_in phases c.part c.phase) cs ≡ holds cs phases
all_held phases [] = refl
all_held phases (c ∷ cs) = ap (λ b. is_in phases c.part c.phase && b) (all_held phases cs)

pub any_barred : (phases : List ℕ) (bars : List Bar) →
    list_any (λ b. holds (conditions_of b) phases) bars ≡ barred (all_conditions bars) phases
any_barred phases [] = refl
any_barred phases (b ∷ bars) = ap (λ t. holds (conditions_of b) phases || t) (any_barred phases bars)
