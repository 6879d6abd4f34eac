-- Bisection: where a record stands or belongs. Assumes nothing.
use Rattle.std.specs.Prelude.{ℕ, zero, suc, ◌+◌, ◌-◌, ◌/◌, cond, List, Ok, Err, Result, nat_lt, slice_index_or}
use Rattle.std.specs.declared.cmp.Ordering.{Ordering}
use Rattle.std.specs.Ordering.{match_ordering as by_order}

abbrev pub middle : ℕ → ℕ → ℕ
middle low high = low + (high - low) / 2

-- x is sought from low up to high, in so many turns: where it stands (Ok), or else where it belongs (Err)
abbrev pub halving : {K : Type 0} → (K → K → Ordering) → K → List K → ℕ → ℕ → ℕ → Result ℕ ℕ
halving cmp x xs zero low high = Err low
halving cmp x xs (suc turns) low high =
    cond (nat_lt low high)
    (by_order (cmp (slice_index_or xs (middle low high) x) x) (halving cmp x xs turns (middle low high + 1) high)
    (Ok (middle low high)) (halving cmp x xs turns low (middle low high)))
    (Err low)

-- among the first n; n turns are more than enough
abbrev pub place : {K : Type 0} → (K → K → Ordering) → K → List K → ℕ → Result ℕ ℕ
place cmp x xs n = halving cmp x xs n 0 n
