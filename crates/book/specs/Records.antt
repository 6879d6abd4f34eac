-- The orders of rows and of stimuli. Assumes nothing.
use Rattle.std.specs.Prelude.{ℕ, List}
use Rattle.std.specs.declared.cmp.Ordering.{Ordering}
use Rattle.book.specs.declared.row.Row.{Row}
use Rattle.book.specs.declared.stimulus.Stimulus.{Stimulus}
use Rattle.std.specs.Ordering.{nat_cmp, ordering_then}
use Rattle.std.specs.Cmp.Lexicographic.{slice_cmp}

-- the first byte that differs decides, and else the length
abbrev pub byte_order : List ℕ → List ℕ → Ordering
byte_order = slice_cmp nat_cmp

abbrev pub row_order : Row → Row → Ordering
row_order x y = byte_order x.bytes y.bytes

-- tick, serial number, outer input: the first that differs decides
abbrev pub key : Stimulus → ℕ × (ℕ × ℕ)
key s = (s.tick, (s.serial, s.input))

abbrev pub stimulus_order : Stimulus → Stimulus → Ordering
stimulus_order x y = ordering_then (nat_cmp (key x).0 (key y).0) (ordering_then (nat_cmp (key x).1.0 (key y).1.0) (nat_cmp (key x).1.1 (key y).1.1))
