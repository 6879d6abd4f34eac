-- The first move that a part does not make. Assumes nothing.
use Rattle.std.specs.Prelude.{ℕ, ◌+◌, List, [], ◌∷◌, Some, None, Ok, Err, Option, Result, nat_lt}
use Rattle.std.specs.Option.{option_map}
use Rattle.fddevs.specs.Machine.{Family, when}
use Rattle.fddevs.specs.Part.{begin}
use Rattle.fddevs.specs.declared.part.PartMove.{PartMove}
use Rattle.fddevs.specs.declared.part.PartState.{PartState}
use Rattle.follow.specs.Follow.{moved}
use Rattle.follow.specs.declared.moves.Stuck.{Stuck}
use Rattle.report.specs.declared.trace.Followed.{Followed}

-- move k is not made, or the moves behind it decide
abbrev pub stuck_or : ℕ → (PartState → Option ℕ) → Result PartState Stuck → Option ℕ
stuck_or k rest (Ok t) = rest t
stuck_or k rest (Err e) = Some k

-- the first of the moves, counted from k, that is not made
abbrev pub first_stuck : Family → ℕ → List PartMove → ℕ → PartState → Option ℕ
first_stuck F p [] k c = None
first_stuck F p (a ∷ rest) k c = stuck_or k (first_stuck F p rest (k + 1)) (moved F p c a)

-- of a part that exists, from its start
abbrev pub stuck_in : Family → ℕ → List PartMove → Option (Option ℕ)
stuck_in F p ms = when (nat_lt p F.count) (first_stuck F p ms 0 (begin (F.part p)))

abbrev pub told : Option Followed → Option (Option ℕ)
told o = option_map (λ x. x.stuck) o
