-- What is asked of one part of a row. Assumes nothing.
use Rattle.std.specs.Prelude.{ℕ, Bool, nat_lt}
use Rattle.fddevs.specs.Machine.{Family}
use Rattle.fddevs.specs.Rows.{Row, lasts}
use Rattle.stepping.specs.Stepping.{nth_cell}

-- part p has the phase of its cell
abbrev pub has_its_phase : Family → Row → ℕ → Bool
has_its_phase F cs p = nat_lt (nth_cell cs p).phase (F.part p).counts.phases

-- d ticks are at most what remains to part p
abbrev pub lasts_for : ℕ → Row → ℕ → Bool
lasts_for d cs p = lasts d (nth_cell cs p).remaining
