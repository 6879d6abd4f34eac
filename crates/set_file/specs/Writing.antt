-- What the writer answers and leaves. Assumes nothing.
use Rattle.std.specs.Prelude.{◌≡◌, ℕ, ◌+◌, ◌-◌, ◌*◌, ◌<◌, Bool, List, [], ◌++◌, map, length, take, drop, Ok, Err, Result, ◌==◌, nat_le, slice_index_or}
use Rattle.std.specs.List.{list_all}
use Rattle.std.specs.Ordering.{is_lt}
use Rattle.fddevs.specs.Vetting.{Vetted, then, unless, seek, found}
use Rattle.fddevs.specs.declared.refusal.Layer.TheVariants.{BookAndPlayback}
use Rattle.fddevs.specs.declared.refusal.Refusal.{Refusal}
use Rattle.fddevs.specs.declared.refusal.Refusal.TheVariants.{NoRoom, RowParts, Body, RowBytes, RowOrder}
use Rattle.book.specs.declared.row.Row.{Row}
use Rattle.book.specs.Records.{row_order}
use Rattle.set_file.specs.Layout.{some_parts, width, body_fits, front, set_file}
use Rattle.set_file.specs.Reading.{vetted, read_set}

-- row k; past the end, one of no bytes
abbrev pub row_at : List Row → ℕ → Row
row_at rows k = slice_index_or rows k (record { bytes = [] })

-- the first n rows have their 48 bytes, as every value of the type has
abbrev pub Whole : List Row → ℕ → Type 0
Whole rows n = (k : ℕ) → k < n → length (row_at rows k).bytes ≡ 48

abbrev pub file_length : ℕ → ℕ → ℕ
file_length n count = 6 + count * width n

abbrev pub size_vetting : ℕ → ℕ → ℕ → Vetted
size_vetting n count size =
    then (unless (some_parts n) RowParts)
    (then (unless (nat_le (file_length n count) size) NoRoom)
    (unless (body_fits (count * width n)) (Body BookAndPlayback)))

abbrev pub zeros : List ℕ → Bool
zeros = list_all (λ b. b == 0)

-- the bytes beyond the first w are 0
abbrev pub clean : ℕ → Row → Bool
clean w row = zeros (drop w row.bytes)

abbrev pub clean_at : ℕ → List Row → ℕ → Bool
clean_at w rows k = clean w (row_at rows k)

abbrev pub bytes_vetting : ℕ → List Row → Vetted
bytes_vetting w rows = found RowBytes (seek (clean_at w rows) 0 (length rows))

-- row k is above the one before it
abbrev pub rises : List Row → ℕ → Bool
rises rows k = is_lt (row_order (row_at rows (k - 1)) (row_at rows k))

abbrev pub rows_vetting : List Row → Vetted
rows_vetting rows = found (RowOrder BookAndPlayback) (seek (rises rows) 1 (length rows - 1))

abbrev pub write_vetting : ℕ → List Row → ℕ → Vetted
write_vetting n rows size = then (size_vetting n (length rows) size) (then (bytes_vetting (width n) rows) (rows_vetting rows))

-- rows of n parts are written into an output of so many bytes: the answer, and what the output then is
abbrev pub written : ℕ → List Row → ℕ → Result ℕ Refusal
written n rows size = vetted (write_vetting n rows size) (file_length n (length rows))

abbrev pub or_else : {A : Type 0} → Vetted → A → A → A
or_else (Ok _) x y = x
or_else (Err e) x y = y

abbrev pub left : ℕ → List Row → List ℕ → List ℕ
left n rows out =
    or_else (write_vetting n rows (length out)) (set_file n rows ++ drop (file_length n (length rows)) out) out

-- The round trip: where a length was answered, the bytes of that length are read as exactly the rows that were written.
abbrev pub ReadBack : ℕ → List Row → Result ℕ Refusal → List ℕ → Type 0
ReadBack n rows (Ok size) out = read_set n (take size out) ≡ Ok (map (front (width n)) rows)
ReadBack n rows (Err e) out = Unit {0}
