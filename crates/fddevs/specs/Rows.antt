-- The row of a state, phase and remaining of each part, and steps on rows. Assumes nothing.
use Rattle.std.specs.Prelude.{ℕ, Bool, true, false, cond, ◌&&◌, List, [], ◌∷◌, map, Some, None, Option, ◌==◌, nat_le, nat_lt}
use Rattle.fddevs.specs.declared.part.Cell.{Cell}
use Rattle.fddevs.specs.declared.part.Mark.{Mark}
use Rattle.fddevs.specs.declared.part.Mark.TheVariants.{Keep, Restart}
use Rattle.fddevs.specs.declared.part.Output.{Output}
use Rattle.fddevs.specs.declared.part.Output.TheVariants.{Silent}
use Rattle.fddevs.specs.declared.part.PartState.{PartState}
use Rattle.fddevs.specs.declared.part.Span.{Span}
use Rattle.fddevs.specs.declared.part.Span.TheVariants.{Ticks, Unlimited}
use Rattle.fddevs.specs.declared.scheme.Move.{Move}
use Rattle.fddevs.specs.declared.scheme.Move.TheVariants.{Outer, Internal, Delay}
use Rattle.fddevs.specs.Machine.{Machine}
use Rattle.fddevs.specs.Part.{left, remaining}
use Rattle.fddevs.specs.Scheme.{Scheme, State, outside, wired, heard, each, at}

abbrev pub Row : Type 0
Row = List Cell

abbrev pub cell : PartState → Cell
cell c = record { phase = c.phase; remaining = remaining c }

abbrev pub row : State → Row
row s = map cell s

-- the steps of a part on its cell
abbrev pub cell_fresh : Machine → ℕ → Cell
cell_fresh m s = record { phase = s; remaining = m.lifespan s }

abbrev pub cell_led : Machine → Mark → ℕ → Cell → Cell
cell_led m Restart s c = cell_fresh m s
cell_led m Keep s c = record { phase = s; remaining = c.remaining }

abbrev pub cell_input : Machine → ℕ → Cell → Cell
cell_input m i c = cell_led m (m.external c.phase i).mark (m.external c.phase i).next c

abbrev pub cell_given : Machine → Option ℕ → Cell → Cell
cell_given m None c = c
cell_given m (Some i) c = cell_input m i c

abbrev pub cell_internal : Machine → Cell → Cell
cell_internal m c = cell_fresh m (m.next c.phase)

abbrev pub cell_delay : ℕ → Cell → Cell
cell_delay d c = record { phase = c.phase; remaining = left c.remaining d }

-- d ticks are at most what remains; nothing remains
abbrev pub lasts : ℕ → Span → Bool
lasts d (Ticks n) = nat_le d n
lasts d Unlimited = true

abbrev pub is_due : Span → Bool
is_due (Ticks n) = n == 0
is_due Unlimited = false

abbrev pub every : {A : Type 0} → (A → Bool) → List A → Bool
every f [] = true
every f (x ∷ xs) = f x && every f xs

-- the steps of a scheme on its row
abbrev pub row_sent : Scheme → ℕ → Row → Output
row_sent S p r = at (λ m c. m.output c.phase) Silent S.parts r p

abbrev pub row_after : Scheme → Row → Move → Row
row_after S r (Outer x) = each (λ k m c. cell_given m (wired S.wiring.wires outside x k) c) 0 S.parts r
row_after S r (Internal p) =
    each
    (λ k m c. cond (k == p) (cell_internal m c) (cell_given m (heard S.wiring.wires p (row_sent S p r) k) c))
    0 S.parts r
row_after S r (Delay d) = map (cell_delay d) r

-- whether the step is allowed: a known outer input, a due part, a delay of at least 1 that no remaining is below
abbrev pub row_allows : Scheme → Row → Move → Bool
row_allows S r (Outer x) = nat_lt x S.wiring.outer_inputs
row_allows S r (Internal p) = at (λ m c. is_due c.remaining) false S.parts r p
row_allows S r (Delay d) = nat_le 1 d && every (λ c. lasts d c.remaining) r
