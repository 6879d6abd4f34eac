-- A set file: version 01, kind 01, the body's length in four bytes, high byte first, and the body, rows of 3 bytes for
-- each of n parts. Assumes nothing.
use Rattle.std.specs.Prelude.{ℕ, ◌+◌, ◌*◌, ◌/◌, ◌%◌, Bool, ◌&&◌, List, [], ◌∷◌, ◌++◌, length, take, drop, nat_le, slice_index}
use Rattle.std.specs.List.{flat_map}
use Rattle.book.specs.declared.row.Row.{Row}

-- 1 to 16 parts
abbrev pub some_parts : ℕ → Bool
some_parts n = nat_le 1 n && nat_le n 16

-- the bytes of a row of n parts
abbrev pub width : ℕ → ℕ
width n = 3 * n

-- a body is 1 to 4,194,304 bytes long
abbrev pub body_fits : ℕ → Bool
body_fits len = nat_le 1 len && nat_le len 4194304

abbrev pub big_endian : ℕ → List ℕ
big_endian len = (len / 16777216 % 256) ∷ (len / 65536 % 256) ∷ (len / 256 % 256) ∷ (len % 256) ∷ []

abbrev pub head : ℕ → List ℕ
head len = 1 ∷ 1 ∷ big_endian len

-- the first w bytes of a row, and row k of a body of rows of w bytes
abbrev pub front : ℕ → Row → List ℕ
front w row = take w row.bytes

abbrev pub stretch : ℕ → List ℕ → ℕ → List ℕ
stretch w body k = take w (drop (k * w) body)

abbrev pub row_count : ℕ → List ℕ → ℕ
row_count w body = length body / w

-- the set file of these rows
abbrev pub set_file : ℕ → List Row → List ℕ
set_file n rows = head (length rows * width n) ++ flat_map (front (width n)) rows

-- the length that the head of a file says
abbrev pub said_length : List ℕ → ℕ
said_length file = slice_index file 2 * 16777216 + slice_index file 3 * 65536 + slice_index file 4 * 256 + slice_index file 5
