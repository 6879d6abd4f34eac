use Rattle.std.proofs.Common.{◌≡◌, length}
use Rattle.book.specs.Records.{byte_order}
use Rattle.book.proofs.bytes.compare.Given as goal

abbrev pub invariant-loop-x : goal.invariant-loop-x
invariant-loop-x l = byte_order l.a l.b ≡ byte_order l.one l.other

abbrev pub decreases-loop-x : goal.decreases-loop-x
decreases-loop-x l = length l.a
