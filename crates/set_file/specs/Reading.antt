-- What the reader answers of a file. Assumes nothing.
use Rattle.std.specs.Prelude.{ℕ, ◌+◌, ◌-◌, ◌%◌, Bool, ◌&&◌, List, map, length, drop, Result, ◌==◌, nat_le, slice_index}
use Rattle.std.specs.List.{range_with_len}
use Rattle.std.specs.Ordering.{is_lt}
pub use Rattle.fddevs.specs.Vetting.{vetted}
use Rattle.fddevs.specs.Vetting.{Vetted, then, unless, seek, found}
use Rattle.fddevs.specs.declared.refusal.Layer.TheVariants.{BookAndPlayback}
use Rattle.fddevs.specs.declared.refusal.Refusal.{Refusal}
use Rattle.fddevs.specs.declared.refusal.Refusal.TheVariants.{NotWhole, Version, RowParts, Kind, Body, RowOrder}
use Rattle.book.specs.Records.{byte_order}
use Rattle.set_file.specs.Layout.{some_parts, width, body_fits, stretch, row_count, said_length}

-- the file is its head and a body of the length that the head says
abbrev pub whole : List ℕ → Bool
whole file = nat_le 6 (length file) && 6 + said_length file == length file

abbrev pub head_vetting : ℕ → List ℕ → Vetted
head_vetting n file =
    then (unless (whole file) (NotWhole BookAndPlayback))
    (then (unless (slice_index file 0 == 1) (Version BookAndPlayback))
    (then (unless (some_parts n) RowParts)
    (then (unless (slice_index file 1 == 1) (Kind BookAndPlayback))
    (unless (body_fits (said_length file) && said_length file % width n == 0) (Body BookAndPlayback)))))

-- row k is above the one before it
abbrev pub climbs : ℕ → List ℕ → ℕ → Bool
climbs w body k = is_lt (byte_order (stretch w body (k - 1)) (stretch w body k))

abbrev pub order_vetting : ℕ → List ℕ → Vetted
order_vetting w body = found (RowOrder BookAndPlayback) (seek (climbs w body) 1 (row_count w body - 1))

-- the rows of a body, each of w bytes
abbrev pub rows_of : ℕ → List ℕ → List (List ℕ)
rows_of w body = map (stretch w body) (range_with_len 0 (row_count w body))

-- the rows of a set file of n parts
abbrev pub read_set : ℕ → List ℕ → Result (List (List ℕ)) Refusal
read_set n file =
    vetted (then (head_vetting n file) (order_vetting (width n) (drop 6 file))) (rows_of (width n) (drop 6 file))
