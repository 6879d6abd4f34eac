-- The rows of a set as records. Assumes nothing.
use Rattle.std.specs.Prelude.{ℕ, ◌-◌, List, ◌++◌, length, take, replicate}
use Rattle.book.specs.declared.row.Row.{Row}

-- the first 48 bytes, and 0 up to 48 where there are fewer
abbrev pub padded : List ℕ → List ℕ
padded bytes = take 48 bytes ++ replicate (48 - length bytes) 0

abbrev pub row_of : List ℕ → Row
row_of bytes = record { bytes = padded bytes }
