-- What is asked of one bar. Assumes nothing.
use Rattle.std.specs.Prelude.{ℕ, Bool, not, List, [], slice_index_or}
use Rattle.bars.specs.declared.condition.Condition.{Condition}
use Rattle.bars.specs.Bars.{holds}

-- bar k does not hold
abbrev pub holds_not : List (List Condition) → List ℕ → ℕ → Bool
holds_not bars phases k = not (holds (slice_index_or bars k []) phases)
