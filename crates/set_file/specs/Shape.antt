-- The rows that a body is taken for. Assumes nothing.
use Rattle.std.specs.Prelude.{ℕ, cond, List}
use Rattle.set_file.specs.Layout.{some_parts, width, row_count}
use Rattle.set_file.specs.declared.rows.Rows.{Rows}

-- the body, the bytes of a row and the number of rows
pub record Shape : Type 0 where
  pub body : List ℕ
  pub width : ℕ
  pub count : ℕ

abbrev pub shape : Rows → Shape
shape rows = record { body = rows.body.now; width = rows.width; count = rows.count }

-- the rows of n parts in a body, and no rows where n is not 1 to 16
abbrev pub shape_of : ℕ → List ℕ → Shape
shape_of n body =
    cond (some_parts n)
    (record { body = body; width = width n; count = row_count (width n) body })
    (record { body = body; width = 0; count = 0 })
