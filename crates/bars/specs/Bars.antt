-- Bars as lists of conditions, and the states that they bar. Assumes nothing.
use Rattle.std.specs.Prelude.{ℕ, zero, suc, Bool, true, false, ◌&&◌, ◌||◌, List, [], ◌∷◌, ◌==◌}
use Rattle.bars.specs.declared.condition.Condition.{Condition}

-- by the phases of the parts, part p is there and in phase s
abbrev pub is_in : List ℕ → ℕ → ℕ → Bool
is_in [] p s = false
is_in (x ∷ xs) zero s = x == s
is_in (x ∷ xs) (suc p) s = is_in xs p s

-- every condition of the bar holds
abbrev pub holds : List Condition → List ℕ → Bool
holds [] phases = true
holds (c ∷ cs) phases = is_in phases c.part c.phase && holds cs phases

-- some bar holds
abbrev pub barred : List (List Condition) → List ℕ → Bool
barred [] phases = false
barred (b ∷ bs) phases = holds b phases || barred bs phases

-- the same conditions, in the same order
abbrev pub same_bar : List Condition → List Condition → Bool
same_bar [] [] = true
same_bar [] (d ∷ ds) = false
same_bar (c ∷ cs) [] = false
same_bar (c ∷ cs) (d ∷ ds) = (c.part == d.part && c.phase == d.phase) && same_bar cs ds

-- a bar with exactly these conditions stands
abbrev pub stands : List (List Condition) → List Condition → Bool
stands [] b = false
stands (a ∷ bars) b = same_bar a b || stands bars b
