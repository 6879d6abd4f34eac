use Rattle.std.proofs.Common.{◌≡◌, ◌*◌, length, take}
use lib.Seq.{paste}
use Rattle.std.specs.List.{flat_map}
use Rattle.set_file.specs.Layout.{front}
use Rattle.set_file.proofs.writing.write_rows.Given as goal

abbrev pub invariant-loop-k : goal.invariant-loop-k
invariant-loop-k l =
    (length (flat_map (front l.width) (take l.k l.rows)) ≡ l.k * l.width)
    × (l.out ≡ paste l.initial.out 6 (flat_map (front l.width) (take l.k l.rows)) (l.k * l.width))
