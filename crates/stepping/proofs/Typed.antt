-- What a slice of bytes holds.
use Rattle.std.proofs.Common.{ℕ, suc, List, [], ◌∷◌, get_or, w8, Fits}
use Rattle.stepping.specs.RowBytes.{Bytes}

pub typed_bytes : (xs : List ℕ) → ((i : ℕ) → Fits w8 (get_or xs i 0)) → Bytes xs
typed_bytes [] h = tt
typed_bytes (x ∷ xs) h = ((h 0).fits, typed_bytes xs (λ i. h (suc i)))
