-- The row to which the first steps of a witness lead. Assumes nothing.
use Rattle.std.specs.Prelude.{ℕ, zero, suc, List, [], ◌∷◌, Some, None, Option}
use Rattle.fddevs.specs.declared.scheme.Move.{Move}
use Rattle.fddevs.specs.Rows.{Row, row_after}
use Rattle.fddevs.specs.Scheme.{Scheme}
use Rattle.proof_rules.specs.Judging.{step_of}

-- a step is made, and the rest goes on; bytes that are no step end the walk
abbrev pub went : Scheme → Row → Option Move → (Row → Row) → Row
went S r None rest = r
went S r (Some a) rest = rest (row_after S r a)

-- the row after the first k steps that the bytes write
abbrev pub walked : Scheme → ℕ → Row → List ℕ → Row
walked S zero r bs = r
walked S (suc k) r [] = r
walked S (suc k) r (a ∷ []) = r
walked S (suc k) r (a ∷ b ∷ []) = r
walked S (suc k) r (a ∷ b ∷ c ∷ bs) = went S r (step_of a b c) (λ q. walked S k q bs)
