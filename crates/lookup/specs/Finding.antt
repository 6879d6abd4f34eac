-- Where a record stands among the first n rows of a body, each of w bytes. Assumes nothing.
use Rattle.std.specs.Prelude.{◌≡◌, ℕ, ◌<◌, ◌≤◌, List, Some, None, Option, ◌≢◌}
use Rattle.std.specs.declared.cmp.Ordering.TheVariants.{Less, Greater}
use Rattle.book.specs.Records.{byte_order}
use Rattle.set_file.specs.Layout.{stretch}

-- the rows ascend strictly
abbrev pub Rising : ℕ → List ℕ → ℕ → Type 0
Rising w body n = (i j : ℕ) → i < j → j < n → byte_order (stretch w body i) (stretch w body j) ≡ Less

-- the rows before low are below x, and those from high on above it
pub record Between (w : ℕ) (body : List ℕ) (n : ℕ) (x : List ℕ) (low high : ℕ) : Type 0 where
  pub lower : (k : ℕ) → k < low → byte_order (stretch w body k) x ≡ Less
  pub higher : (k : ℕ) → high ≤ k → k < n → byte_order (stretch w body k) x ≡ Greater

-- where the rows rise, x can stand from low up to high alone
abbrev pub Narrowed : ℕ → List ℕ → ℕ → List ℕ → ℕ → ℕ → Type 0
Narrowed w body n x low high = Rising w body n → Between w body n x low high

-- x is row k
pub record Here (w : ℕ) (body : List ℕ) (n : ℕ) (x : List ℕ) (k : ℕ) : Type 0 where
  pub within : k < n
  pub same : stretch w body k ≡ x

-- x is no row
abbrev pub Nowhere : ℕ → List ℕ → ℕ → List ℕ → Type 0
Nowhere w body n x = (k : ℕ) → k < n → stretch w body k ≢ x

-- the answer is a row that x is, or none, and then x is no row where the rows rise
abbrev pub Found : ℕ → List ℕ → ℕ → List ℕ → Option ℕ → Type 0
Found w body n x (Some k) = Here w body n x k
Found w body n x None = Rising w body n → Nowhere w body n x
