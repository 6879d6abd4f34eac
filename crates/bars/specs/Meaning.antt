-- What bars in memory mean. Assumes nothing.
use Rattle.std.specs.Prelude.{ℕ, List, map, take, Some, None, Option}
use Rattle.bars.specs.declared.bar.Bar.{Bar}
use Rattle.bars.specs.declared.bars.Bars.{Bars}
use Rattle.bars.specs.declared.condition.Condition.{Condition}

abbrev pub conditions_of : Bar → List Condition
conditions_of b = take b.count b.table

abbrev pub all_conditions : List Bar → List (List Condition)
all_conditions bars = map conditions_of bars

-- the first `count` bars of a table
abbrev pub bars_of : ℕ → Bars → List (List Condition)
bars_of count bars = all_conditions (take count bars.table)

abbrev pub shown : Option Bar → Option (List Condition)
shown (Some b) = Some (conditions_of b)
shown None = None
