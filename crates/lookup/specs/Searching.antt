-- Where a record's first bytes stand among rows. Assumes nothing.
use Rattle.std.specs.Prelude.{ℕ, Option}
use Rattle.book.specs.declared.row.Row.{Row}
use Rattle.set_file.specs.Layout.{front}
use Rattle.set_file.specs.declared.rows.Rows.{Rows}
use Rattle.lookup.specs.Finding.{Narrowed, Found}

-- where the rows rise, the record can stand from low up to high alone
abbrev pub IsNarrowed : Rows → Row → ℕ → ℕ → Type 0
IsNarrowed rows row = Narrowed rows.width rows.body.now rows.count (front rows.width row)

-- the answer is the row that the record is, or none, and then it is no row where the rows rise
abbrev pub IsFound : Rows → Row → Option ℕ → Type 0
IsFound rows row = Found rows.width rows.body.now rows.count (front rows.width row)
