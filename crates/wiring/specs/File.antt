-- The wiring file: version 01, the length of the rest in two bytes, the numbers of outer inputs and outer outputs, and
-- the wires, four bytes each. Assumes nothing.
use Rattle.std.specs.Prelude.{ℕ, ◌+◌, ◌-◌, ◌*◌, ◌/◌, ◌%◌, Bool, ◌&&◌, List, map, length, ◌==◌, nat_le, slice_index}
use Rattle.std.specs.List.{range_with_len}
use Rattle.fddevs.specs.Bytes.{two_at}
use Rattle.fddevs.specs.declared.scheme.Wire.{Wire}
use Rattle.fddevs.specs.Scheme.{Wiring}

abbrev pub wire_at : List ℕ → ℕ → Wire
wire_at f i = record {
  source = slice_index f i;
  output = slice_index f (i + 1);
  target = slice_index f (i + 2);
  input = slice_index f (i + 3);
}

abbrev pub wire_count : List ℕ → ℕ
wire_count f = (length f - 5) / 4

-- the wiring that the file holds
abbrev pub held : List ℕ → Wiring
held f = record {
  outer_inputs = slice_index f 3;
  outer_outputs = slice_index f 4;
  wires = map (λ k. wire_at f (5 + 4 * k)) (range_with_len 0 (wire_count f));
}

-- the file ends where its length says, after its counts and whole wires
abbrev pub is_whole : List ℕ → Bool
is_whole f = nat_le 5 (length f) && (length f == 3 + two_at f 1 && (length f - 5) % 4 == 0)

abbrev pub is_version_one : List ℕ → Bool
is_version_one f = slice_index f 0 == 1

abbrev pub is_within : List ℕ → Bool
is_within f = nat_le (slice_index f 3) 32 && (nat_le (slice_index f 4) 32 && nat_le (wire_count f) 256)
