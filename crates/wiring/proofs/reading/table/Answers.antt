use Rattle.std.proofs.Common.{ℕ, ◌+◌, ◌*◌, ◌≤◌, length, take, ◌∙◌, arith}
use Rattle.std.proofs.lemmas.List.{length-take-le, get_or-take}
use Rattle.std.proofs.lemmas.List.FromFn.{fill_by_all}
use Rattle.wiring.specs.File.{wire_at, wire_count}
use Rattle.wiring.specs.Wires.{no_wire}
use Rattle.wiring.proofs.reading.table.Goals as goal

pub returns : goal.returns
returns c =
    let l = c.loop-k in
    let f = c.args.file.now in
    let n = wire_count f in
    let fits : n ≤ length l.table = omega arith in
    fill_by_all (λ (k : ℕ). wire_at f (5 + 4 * k)) (take n l.table) n no_wire (length-take-le n l.table fits)
    (λ k h. get_or-take n l.table k no_wire h ∙ l.invariant.1 k (omega arith))
