-- Proof files as bytes: version 01, kind (01 set, 02 witness), the length of the body in four bytes, the body.
-- Assumes nothing.
use Rattle.std.specs.Prelude.{ℕ, ◌/◌, ◌%◌, List, [], ◌∷◌, ◌++◌, length}
use Rattle.std.specs.List.{flat_map}
use Rattle.fddevs.specs.declared.scheme.Move.{Move}
use Rattle.fddevs.specs.declared.scheme.Move.TheVariants.{Outer, Internal, Delay}
use Rattle.fddevs.specs.Rows.{Row}
use Rattle.set_file.specs.Layout.{big_endian}
pub use Rattle.stepping.specs.RowBytes.{Bytes}
use Rattle.stepping.specs.RowBytes.{row_bytes}

abbrev pub proof_file : ℕ → List ℕ → List ℕ
proof_file kind body = 1 ∷ kind ∷ (big_endian (length body) ++ body)

-- the body of a set: its rows, one after the other
abbrev pub rows_bytes : List Row → List ℕ
rows_bytes rows = flat_map row_bytes rows

-- a step is three bytes: 00 and a delay, 01 00 and an outer input, 02 00 and a part
abbrev pub step_bytes : Move → List ℕ
step_bytes (Delay d) = 0 ∷ d / 256 ∷ d % 256 ∷ []
step_bytes (Outer x) = 1 ∷ 0 ∷ x ∷ []
step_bytes (Internal p) = 2 ∷ 0 ∷ p ∷ []

-- the body of a witness
abbrev pub steps_bytes : List Move → List ℕ
steps_bytes moves = flat_map step_bytes moves
