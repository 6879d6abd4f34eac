use Rattle.std.proofs.Common.{◌≡◌, ℕ, ◌+◌}
use Rattle.stepping.specs.RowBytes.{cells_of}
use Rattle.wiring.specs.Meaning.{wiring_of}
use Rattle.reasons.proofs.Walks.{Ahead}
use Rattle.reasons.proofs.walking.walk_to.Given as goal

abbrev pub invariant-loop-k : goal.invariant-loop-k
invariant-loop-k g l =
    (n : ℕ) → n + l._k ≡ l.steps →
    Ahead (g.B.Bank.family l.bank) (g.met.B.Bank.limits l.bank) (wiring_of l.wiring) l.steps l.body
    n (cells_of l.row.bytes) l.left
