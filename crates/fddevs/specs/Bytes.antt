-- Numbers in the bytes of a file, and what bytes say of a part. A byte past the end reads as 0. Assumes nothing.
use Rattle.std.specs.Prelude.{ℕ, ◌+◌, ◌*◌, cond, List, ◌==◌, slice_index}
use Rattle.fddevs.specs.declared.part.Mark.{Mark}
use Rattle.fddevs.specs.declared.part.Mark.TheVariants.{Keep, Restart}
use Rattle.fddevs.specs.declared.part.Output.{Output}
use Rattle.fddevs.specs.declared.part.Output.TheVariants.{Silent, Sends}
use Rattle.fddevs.specs.declared.part.Span.{Span}
use Rattle.fddevs.specs.declared.part.Span.TheVariants.{Ticks, Unlimited}

-- the two-byte number at byte i, the high byte first
abbrev pub two_at : List ℕ → ℕ → ℕ
two_at f i = slice_index f i * 256 + slice_index f (i + 1)

-- the span that two bytes write: FF FF is unlimited
abbrev pub span_of : ℕ → Span
span_of v = cond (v == 65535) Unlimited (Ticks v)

-- the number that writes a span
abbrev pub ticks_of : Span → ℕ
ticks_of (Ticks n) = n
ticks_of Unlimited = 65535

-- FF is silence
abbrev pub output_of : ℕ → Output
output_of b = cond (b == 255) Silent (Sends b)

-- 00 is keep
abbrev pub mark_of : ℕ → Mark
mark_of b = cond (b == 0) Keep Restart
