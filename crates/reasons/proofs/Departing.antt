-- The steps from a row of a set, kind by kind.
use Rattle.std.proofs.Common.{◌≡◌, ℕ, true, List, length, Some, None, Option}
use Rattle.std.proofs.lemmas.Bool.{and_from}
use Rattle.fddevs.specs.declared.scheme.Move.TheVariants.{Outer, Internal, Delay}
use Rattle.fddevs.specs.Rows.{Row}
use Rattle.fddevs.specs.Scheme.{Scheme}
use Rattle.proof_rules.specs.Judging.{stays}
use Rattle.reasons.specs.Leaving.{LeavesBy, Leaves}
use Rattle.reasons.specs.declared.leaving.Departure.{Departure}

pub leaves_last : (S : Scheme) (rows : List Row) (r : Row) (n : ℕ) → stays S rows r (Delay 1) ≡ true →
    LeavesBy S rows r n Outer S.wiring.outer_inputs None → (o : Option Departure) →
    LeavesBy S rows r n Internal (length S.parts) o → Leaves S rows r n o
leaves_last S rows r n one outer None inner = and_from _ _ one (and_from _ _ outer inner)
leaves_last S rows r n one outer (Some d) inner = inner
