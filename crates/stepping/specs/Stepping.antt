-- A family of parts and a wiring, stepped by the 16 cells of a row: the parts have the first of them. Assumes nothing.
use Rattle.std.specs.Prelude.{ℕ, ◌-◌, Bool, cond, ◌++◌, take, drop, replicate, nat_lt, slice_index_or, slice_set}
use Rattle.fddevs.specs.declared.part.Cell.{Cell}
use Rattle.fddevs.specs.declared.part.Span.TheVariants.{Ticks}
use Rattle.fddevs.specs.declared.scheme.Move.{Move}
use Rattle.fddevs.specs.declared.scheme.Wire.{Wire}
use Rattle.fddevs.specs.Machine.{Machine, Family, bounded}
use Rattle.fddevs.specs.Rows.{Row, row, cell_input, cell_given, row_after, row_allows}
use Rattle.fddevs.specs.Scheme.{Wiring, start, scheme, wired, each}
use Rattle.wiring.specs.Meaning.{no_wiring}

-- f on the first n cells; the others stay
abbrev pub on_first : ℕ → (Row → Row) → Row → Row
on_first n f cs = f (take n cs) ++ drop n cs

-- what three bytes of 0 write
abbrev pub no_cell : Cell
no_cell = record { phase = 0; remaining = Ticks 0 }

abbrev pub nth_cell : Row → ℕ → Cell
nth_cell cs k = slice_index_or cs k no_cell

-- a part with all that lies beyond its counts ignored, as the scheme has it
abbrev pub machine : Family → ℕ → Machine
machine F p = bounded (F.part p)

-- the cells at the start, the same for every wiring: the parts begin, and the others are zero
abbrev pub start_cells : Family → Row
start_cells F = row (start (scheme F no_wiring)) ++ replicate (16 - F.count) no_cell

-- the cells after a move
abbrev pub cells_after : Family → Wiring → Move → Row → Row
cells_after F W a cs = on_first F.count (λ r. row_after (scheme F W) r a) cs

-- whether the cells allow a move
abbrev pub cells_allow : Family → Wiring → Row → Move → Bool
cells_allow F W cs a = row_allows (scheme F W) (take F.count cs) a

-- the part that a wire leads to takes its input
abbrev pub fed : Family → Wire → Row → Row
fed F w cs =
    cond (nat_lt w.target F.count)
    (slice_set cs w.target (cell_input (machine F w.target) w.input (nth_cell cs w.target))) cs

-- every part that is wired to this output of the source takes its input
abbrev pub cells_given : Family → Wiring → ℕ → ℕ → Row → Row
cells_given F W source output cs =
    on_first F.count
    (λ r. each (λ k m c. cell_given m (wired W.wires source output k) c) 0 (scheme F W).parts r) cs
