-- The first cells after a move are the row of the scheme after it.
use Rattle.std.proofs.Common.{◌≡◌, ℕ, suc, ◌+◌, ◌-◌, ◌≤◌, List, [], ◌∷◌, ◌++◌, length, take, drop, replicate, sym, refl, ap, ◌∙◌, arith}
use Rattle.std.proofs.lemmas.List.{length-map, length-append, length-take-le, take_at, take-append-drop}
use Rattle.fddevs.specs.declared.part.Cell.{Cell}
use Rattle.fddevs.specs.declared.scheme.Move.{Move}
use Rattle.fddevs.specs.declared.scheme.Move.TheVariants.{Outer, Internal, Delay}
use Rattle.fddevs.specs.Machine.{Machine, Family}
use Rattle.fddevs.specs.Rows.{Row, row, row_after}
use Rattle.fddevs.specs.Scheme.{Wiring, start, scheme, each}
use Rattle.stepping.specs.Stepping.{on_first, no_cell, start_cells, cells_after}
use Rattle.stepping.proofs.Made.{count_parts}

-- functions that keep the number of cells
abbrev pub Keeps : ℕ → (Row → Row) → Type 0
Keeps n f = (r : Row) → length r ≡ n → length (f r) ≡ n

module _ (n : ℕ) (f : Row → Row) (cs : Row) (few : n ≤ length cs) (keeps : Keeps n f) where
  pub take_on_first : take n (on_first n f cs) ≡ f (take n cs)
  take_on_first = take_at (f (take n cs)) (drop n cs) n (keeps (take n cs) (length-take-le n cs few))

  pub length_on_first : length (on_first n f cs) ≡ length cs
  length_on_first =
      length-append (f (take n cs)) (drop n cs)
      ∙ ap (λ k. k + length (drop n cs)) (keeps (take n cs) (length-take-le n cs few) ∙ sym (length-take-le n cs few))
      ∙ sym (length-append (take n cs) (drop n cs)) ∙ ap length (take-append-drop n cs)

each_length : (f : ℕ → Machine → Cell → Cell) (k : ℕ) (ms : List Machine) (cs : Row) → length cs ≡ length ms →
    length (each f k ms cs) ≡ length ms
each_length f k [] cs h = refl
each_length f k (m ∷ ms) [] h = absurd (omega arith)
each_length f k (m ∷ ms) (c ∷ cs) h = ap suc (each_length f (suc k) ms cs (omega arith))

module _ (F : Family) (W : Wiring) where
  -- a move keeps the number of cells
  pub row_after_keeps : (a : Move) → Keeps F.count (λ r. row_after (scheme F W) r a)
  row_after_keeps (Outer x) r h =
      each_length _ 0 (scheme F W).parts r (h ∙ sym (count_parts F W)) ∙ count_parts F W
  row_after_keeps (Internal p) r h =
      each_length _ 0 (scheme F W).parts r (h ∙ sym (count_parts F W)) ∙ count_parts F W
  row_after_keeps (Delay d) r h = length-map r _ ∙ h

  module _ (cs : Row) (few : F.count ≤ length cs) (a : Move) where
    pub take_after : take F.count (cells_after F W a cs) ≡ row_after (scheme F W) (take F.count cs) a
    take_after = take_on_first F.count (λ r. row_after (scheme F W) r a) cs few (row_after_keeps a)

    pub length_after : length (cells_after F W a cs) ≡ length cs
    length_after = length_on_first F.count (λ r. row_after (scheme F W) r a) cs few (row_after_keeps a)

  -- the start is the same for every wiring
  pub start_any : start_cells F ≡ row (start (scheme F W)) ++ replicate (16 - F.count) no_cell
  start_any = refl

  -- the first cells at the start are the row of the scheme's start
  pub take_start : take F.count (start_cells F) ≡ row (start (scheme F W))
  take_start =
      take_at (row (start (scheme F W))) _ F.count
      (length-map (start (scheme F W)) _ ∙ length-map (scheme F W).parts _ ∙ count_parts F W)
