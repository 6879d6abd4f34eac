use Rattle.std.proofs.Common.{◌≡◌, ℕ, ◌+◌, ◌*◌, ◌<◌, length}
use Rattle.wiring.specs.File.{wire_at}
use Rattle.wiring.specs.Wires.{nth}
use Rattle.wiring.proofs.reading.table.Given as goal

abbrev pub invariant-loop-k : goal.invariant-loop-k
invariant-loop-k l =
    (length l.table ≡ 256) × ((j : ℕ) → j < l.k → nth l.table j ≡ wire_at l.file (5 + 4 * j))
