-- A part is followed exactly as the formalism steps it.
use Rattle.std.specs.Prelude.{◌≡◌, ℕ, ◌^◌, ◌<◌, Ok, Result}
use Rattle.fddevs.specs.Machine.{Family}
use Rattle.fddevs.specs.Part.{PartStep}
use Rattle.fddevs.specs.declared.part.PartMove.{PartMove}
use Rattle.fddevs.specs.declared.part.PartState.{PartState}
use Rattle.follow.specs.declared.moves.Stuck.{Stuck}

-- An answer is a step of the part, and of a part and a phase that exist each step whose ticks can be counted is answered.
pub record FollowsExactly (F : Family) (p : ℕ) (c : PartState) (a : PartMove) (r : Result PartState Stuck) : Type 0 where
  pub sound : (t : PartState) → r ≡ Ok t → PartStep (F.part p) c a t
  pub complete : p < F.count → c.phase < (F.part p).counts.phases → (t : PartState) → PartStep (F.part p) c a t →
      t.elapsed < 2 ^ 64 → r ≡ Ok t
