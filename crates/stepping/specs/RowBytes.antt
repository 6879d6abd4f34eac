-- A row as bytes: three for each part, the phase and then the remaining ticks in two, high byte first, FF FF for
-- unlimited. Assumes nothing.
use Rattle.std.specs.Prelude.{ℕ, ◌+◌, ◌*◌, ◌/◌, ◌%◌, ◌<◌, List, [], ◌∷◌, ◌++◌}
use Rattle.std.specs.List.{AllByRecursion}
pub use Rattle.fddevs.specs.Bytes.{span_of}
use Rattle.fddevs.specs.declared.part.Cell.{Cell}
use Rattle.fddevs.specs.declared.part.Span.{Span}
use Rattle.fddevs.specs.declared.part.Span.TheVariants.{Ticks, Unlimited}
use Rattle.fddevs.specs.Rows.{Row}

-- each number is a byte, as in every file
abbrev pub Bytes : List ℕ → Type 0
Bytes bs = AllByRecursion (λ b. b < 256) bs

abbrev pub cell_of : ℕ → ℕ → ℕ → Cell
cell_of p a b = record { phase = p; remaining = span_of (a * 256 + b) }

-- the cells that bytes write, as many as are whole
abbrev pub cells_of : List ℕ → Row
cells_of [] = []
cells_of (p ∷ []) = []
cells_of (p ∷ a ∷ []) = []
cells_of (p ∷ a ∷ b ∷ bs) = cell_of p a b ∷ cells_of bs

-- the bytes of a row
abbrev pub span_bytes : Span → List ℕ
span_bytes (Ticks n) = n / 256 ∷ n % 256 ∷ []
span_bytes Unlimited = 255 ∷ 255 ∷ []

abbrev pub row_bytes : Row → List ℕ
row_bytes [] = []
row_bytes (c ∷ cs) = c.phase ∷ (span_bytes c.remaining ++ row_bytes cs)
