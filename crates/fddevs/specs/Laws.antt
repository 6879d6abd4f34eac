-- The laws of steps, rows and delays, as statements.
use Rattle.std.specs.Prelude.{◌≡◌, ℕ, ◌≤◌, true, ◌↔◌, replicate}
use Rattle.std.specs.List.{AllByRecursion}
use Rattle.fddevs.specs.declared.scheme.Move.{Move}
use Rattle.fddevs.specs.declared.scheme.Move.TheVariants.{Delay}
use Rattle.fddevs.specs.Part.{Within}
use Rattle.fddevs.specs.Scheme.{Scheme, State, Step, Run, Entered}
use Rattle.fddevs.specs.Rows.{row, row_after, row_allows}

-- no part has passed the end of the lifespan it carries
abbrev pub InTime : State → Type 0
InTime s = AllByRecursion (λ c. Within c.lifespan c.elapsed) s

-- the step leads from the state to some state
abbrev pub Allowed : Scheme → State → Move → Type 0
Allowed S s a = (t : State) × Step S s a t

-- A step is allowed in a state exactly when it is allowed in its row, and the rows of its results are the result of the row.
pub record RowSteps (S : Scheme) (s : State) (a : Move) : Type 0 where
  pub allowed : Allowed S s a ↔ (row_allows S (row s) a ≡ true)
  pub results : (t : State) → Step S s a t → row t ≡ row_after S (row s) a

-- so it is in every state that a run enters, and none of these is past its time
abbrev pub RowsAgree : Type 0
RowsAgree = (S : Scheme) (u : State) → Entered S u → InTime u × ((a : Move) → RowSteps S u a)

-- A delay of d ticks is d delays of one tick.
abbrev pub DelaysSplit : Type 0
DelaysSplit =
    (S : Scheme) (s t : State) (d : ℕ) → 1 ≤ d → Step S s (Delay d) t ↔ Run S s (replicate d (Delay 1)) t
