-- Steps that lead from a row to none of the rows. Assumes nothing.
use Rattle.std.specs.Prelude.{◌≡◌, ℕ, true, false, List, take, Some, None, Option}
use Rattle.fddevs.specs.declared.scheme.Move.{Move}
use Rattle.fddevs.specs.Rows.{Row, row_after, row_allows}
use Rattle.fddevs.specs.Scheme.{Scheme}
use Rattle.fddevs.specs.Vetting.{all_below}
use Rattle.book.specs.declared.row.Row.{Row as Record}
use Rattle.stepping.specs.RowBytes.{cells_of}
use Rattle.proof_rules.specs.Judging.{among, stays, all_stay}
use Rattle.proof_rules.specs.Rules.{single}
use Rattle.reasons.specs.declared.leaving.Departure.{Departure}

-- the step is allowed in r, and leads to a row of n parts that is none of the rows
pub record Out (S : Scheme) (rows : List Row) (r : Row) (n : ℕ) (a : Move) (to : Record) : Type 0 where
  pub allowed : row_allows S r a ≡ true
  pub leads : take n (cells_of to.bytes) ≡ row_after S r a
  pub missing : among rows (row_after S r a) ≡ false

-- where no row is given, the step is not allowed or leads to one of the rows
abbrev pub LeadsOut : Scheme → List Row → Row → ℕ → Move → Option Record → Type 0
LeadsOut S rows r n a (Some to) = Out S rows r n a to
LeadsOut S rows r n a None = stays S rows r a ≡ true

-- a single step that leads out
pub record Departs (S : Scheme) (rows : List Row) (r : Row) (n : ℕ) (d : Departure) : Type 0 where
  pub one : single d.step ≡ true
  pub out : Out S rows r n d.step d.to

-- where none is given, each of the first `count` steps m leads to one of the rows
abbrev pub LeavesBy : Scheme → List Row → Row → ℕ → (ℕ → Move) → ℕ → Option Departure → Type 0
LeavesBy S rows r n m count (Some d) = Departs S rows r n d
LeavesBy S rows r n m count None = all_below (λ x. stays S rows r (m x)) count ≡ true

-- where none is given, every single step leads to one of the rows
abbrev pub Leaves : Scheme → List Row → Row → ℕ → Option Departure → Type 0
Leaves S rows r n (Some d) = Departs S rows r n d
Leaves S rows r n None = all_stay S rows r ≡ true
