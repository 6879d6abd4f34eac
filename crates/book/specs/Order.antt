-- Total orders, and lists that ascend by them. Assumes nothing.
use Rattle.std.specs.Prelude.{◌≡◌, ℕ, ◌<◌, ◌≤◌, List, length, slice_index_or}
use Rattle.std.specs.declared.cmp.Ordering.TheVariants.{Less, Equal}
use Rattle.std.specs.declared.cmp.Ordering.{Ordering}
use Rattle.std.specs.Ordering.{ordering_reverse, Ordering-set}
use Rattle.std.specs.Coded.{le_prop}

-- any two values are below, above or the same, and what is below stays below
pub record TotalOrder {K : Type 0} (cmp : K → K → Ordering) : Type 0 where
  pub same : (x y : K) → cmp x y ≡ Equal → x ≡ y
  pub itself : (x : K) → cmp x x ≡ Equal
  pub turned : (x y : K) → cmp x y ≡ ordering_reverse (cmp y x)
  pub passes : (x y z : K) → cmp x y ≡ Less → cmp y z ≡ Less → cmp x z ≡ Less

-- each of the first n is below each later one of them
abbrev pub Ascending : {K : Type 0} → (K → K → Ordering) → List K → ℕ → Type 0
Ascending {K} cmp xs n = (i j : ℕ) (d : K) → i < j → j < n → cmp (slice_index_or xs i d) (slice_index_or xs j d) ≡ Less

-- the first n entries are records that ascend
pub record Kept {K : Type 0} (cmp : K → K → Ordering) (xs : List K) (n : ℕ) : Type 0 where
  pub within : n ≤ length xs
  pub ascending : Ascending cmp xs n

-- there is one proof of it at most
pub Kept-prop : {K : Type 0} (cmp : K → K → Ordering) (xs : List K) (n : ℕ) → IsProp (Kept cmp xs n)
Kept-prop cmp xs n a b i = record {
  within = le_prop a.within b.within i;
  ascending = λ j k d h u. Ordering-set _ _ (a.ascending j k d h u) (b.ascending j k d h u) i;
}
