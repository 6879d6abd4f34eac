-- The rules that a proof file keeps for a scheme and its bars: those of sets, and those of witnesses. Assumes nothing.
use Rattle.std.specs.Prelude.{◌≡◌, ℕ, suc, ◌<◌, ◌≤◌, Bool, true, false, List, [], ◌∷◌, map, length, ◌==◌, slice_index_or}
use Rattle.std.specs.declared.cmp.Ordering.TheVariants.{Less}
use Rattle.std.specs.List.{ContainsAt as Has, AllByRecursion}
use Rattle.fddevs.specs.declared.scheme.Move.{Move}
use Rattle.fddevs.specs.declared.scheme.Move.TheVariants.{Outer, Internal, Delay}
use Rattle.fddevs.specs.Machine.{Machine, Family, Short}
use Rattle.fddevs.specs.Scheme.{Wiring, Scheme, scheme, State, start, Step, Run}
use Rattle.fddevs.specs.Rows.{Row, row}
use Rattle.bars.specs.declared.condition.Condition.{Condition}
use Rattle.bars.specs.Bars.{barred}
use Rattle.book.specs.Records.{byte_order}
use Rattle.stepping.specs.RowBytes.{row_bytes}
use Rattle.proof_rules.specs.Files.{proof_file, rows_bytes, steps_bytes}

abbrev pub Bars : Type 0
Bars = List (List Condition)

-- the phase of each part
abbrev pub phases : State → List ℕ
phases s = map (λ c. c.phase) s

abbrev pub row_phases : Row → List ℕ
row_phases r = map (λ c. c.phase) r

-- a row has a cell for each part: a phase that the part has, and a remaining that two bytes write
abbrev pub OfParts : List Machine → Row → Type 0
OfParts [] [] = Unit {0}
OfParts [] (c ∷ cs) = ⊥
OfParts (m ∷ ms) [] = ⊥
OfParts (m ∷ ms) (c ∷ cs) = (c.phase < m.counts.phases) × Short c.remaining × OfParts ms cs

-- each row is above the one before it, as bytes
abbrev pub Ascending : List Row → Type 0
Ascending rows =
    (k : ℕ) → suc k < length rows →
    byte_order (row_bytes (slice_index_or rows k [])) (row_bytes (slice_index_or rows (suc k) [])) ≡ Less

-- a single step: an outer input, an internal step, or a delay of 1
abbrev pub single : Move → Bool
single (Outer x) = true
single (Internal p) = true
single (Delay d) = d == 1

-- rows that hold the start, that no bar holds in, and that no single step leaves
pub record Closed (S : Scheme) (bars : Bars) (rows : List Row) : Type 0 where
  pub starts : Has rows (row (start S))
  pub unbarred : (r : Row) → Has rows r → barred bars (row_phases r) ≡ false
  pub stays : (s t : State) (a : Move) → Has rows (row s) → single a ≡ true → Step S s a t → Has rows (row t)

-- The file is a set: one or more rows, strictly ascending, of phases that exist, and closed.
pub record KeepsSetRules (F : Family) (W : Wiring) (bars : Bars) (file : List ℕ) : Type 0 where
  pub rows : List Row
  pub written : file ≡ proof_file 1 (rows_bytes rows)
  pub limit : length (rows_bytes rows) ≤ 4194304
  pub some : 1 ≤ length rows
  pub exist : AllByRecursion (OfParts (scheme F W).parts) rows
  pub ascending : Ascending rows
  pub closed : Closed (scheme F W) bars rows

-- The file is a witness: the steps of a run from the start to a barred state.
pub record KeepsWitnessRules (F : Family) (W : Wiring) (bars : Bars) (file : List ℕ) : Type 0 where
  pub steps : List Move
  pub written : file ≡ proof_file 2 (steps_bytes steps)
  pub limit : length (steps_bytes steps) ≤ 4194304
  pub end : State
  pub run : Run (scheme F W) (start (scheme F W)) steps end
  pub ends_barred : barred bars (phases end) ≡ true
