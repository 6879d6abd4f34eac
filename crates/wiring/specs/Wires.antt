-- The order of wires, and the wires from one source. Assumes nothing.
use Rattle.std.specs.Prelude.{◌≡◌, ℕ, ◌-◌, ◌<◌, ◌≤◌, Bool, true, false, cond, not, ◌&&◌, ◌||◌, List, [], ◌∷◌, length, Some, None, filter, Option, ◌==◌, nat_lt, slice_index_or}
use Rattle.fddevs.specs.declared.scheme.Wire.{Wire}
use Rattle.fddevs.specs.Scheme.{links}
use Rattle.fddevs.specs.Vetting.{all_below}

abbrev pub bytes : Wire → List ℕ
bytes w = w.source ∷ w.output ∷ w.target ∷ w.input ∷ []

-- of two strings of bytes, the first comes before the second: it has the smaller byte where they first differ
abbrev pub before : List ℕ → List ℕ → Bool
before [] ys = false
before (x ∷ xs) [] = false
before (x ∷ xs) (y ∷ ys) = nat_lt x y || (x == y && before xs ys)

abbrev pub no_wire : Wire
no_wire = record { source = 0; output = 0; target = 0; input = 0 }

abbrev pub nth : List Wire → ℕ → Wire
nth ws k = slice_index_or ws k no_wire

-- wire k comes after the one before it
abbrev pub in_order : List Wire → ℕ → Bool
in_order ws k = k == 0 || before (bytes (nth ws (k - 1))) (bytes (nth ws k))

abbrev pub ascends : List Wire → Bool
ascends ws = all_below (in_order ws) (length ws)

-- both lead from one output of one source to one target: their first three bytes are equal
abbrev pub same_start : Wire → Wire → Bool
same_start v w = links v w.source w.output w.target

-- wire k has another start than each one before it
abbrev pub is_apart : List Wire → ℕ → Bool
is_apart ws k = all_below (λ j. not (same_start (nth ws j) (nth ws k))) k

-- no two wires lead from one output of one source to one target
abbrev pub all_apart : List Wire → Bool
all_apart ws = all_below (is_apart ws) (length ws)

-- the wire comes from this output of the source (or, from outside, this outer input)
abbrev pub comes_from : ℕ → ℕ → Wire → Bool
comes_from source output w = w.source == source && w.output == output

abbrev pub from_source : List Wire → ℕ → ℕ → List Wire
from_source ws source output = filter (comes_from source output) ws

-- where the first of these wires that leads to the target ends
abbrev pub input_to : List Wire → ℕ → Option ℕ
input_to [] target = None
input_to (w ∷ ws) target = cond (w.target == target) (Some w.input) (input_to ws target)

-- the wire comes from a lower source than this, or from a lower output of it
abbrev pub comes_below : ℕ → ℕ → Wire → Bool
comes_below source output w = nat_lt w.source source || (w.source == source && nat_lt w.output output)

-- the first n wires are those that come from below
pub record Splits (ws : List Wire) (source output n : ℕ) : Type 0 where
  pub bound : n ≤ length ws
  pub front : (k : ℕ) → k < n → comes_below source output (nth ws k) ≡ true
  pub back : (k : ℕ) → n ≤ k → k < length ws → comes_below source output (nth ws k) ≡ false
