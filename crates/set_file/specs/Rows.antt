-- What is read of the first n rows of a body, each of w bytes. Assumes nothing.
use Rattle.std.specs.Prelude.{ℕ, Bool, cond, ◌&&◌, List, ◌++◌, drop, nat_le, nat_lt}
use Rattle.set_file.specs.Layout.{stretch}
use Rattle.set_file.specs.Reading.{climbs}

-- row k written over the first bytes of a record, if there is such a row
abbrev pub loaded : ℕ → List ℕ → ℕ → ℕ → List ℕ → List ℕ
loaded w body n k bytes = cond (nat_lt k n) (stretch w body k ++ drop w bytes) bytes

-- there are a row k and a row before it, and row k is above that
abbrev pub climbs_at : ℕ → List ℕ → ℕ → ℕ → Bool
climbs_at w body n k = nat_le 1 k && nat_lt k n && climbs w body k
