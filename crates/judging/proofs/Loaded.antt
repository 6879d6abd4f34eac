-- The row that a record holds after it was loaded.
use Rattle.std.proofs.Common.{◌≡◌, ℕ, ◌<◌, ◌≤◌, Bool, true, false, ltb, List, ◌++◌, length, take, drop, Ok, Err, sym, ap, ◌∙◌, ap₂, div-mul-le_self, arith}
use Rattle.std.proofs.lemmas.List.{take_at}
use Rattle.std.proofs.lemmas.Bool.{lt-ltb, cond-true}
use Rattle.fddevs.specs.declared.refusal.Refusal.{Refusal}
use Rattle.fddevs.specs.Vetting.{seek, found}
use Rattle.fddevs.proofs.Vetting.{first_some, first_none}
use Rattle.set_file.specs.Layout.{some_parts, width, stretch, row_count}
use Rattle.lookup.specs.Reading.{loaded}
use Rattle.lookup.specs.Shape.{shape, shape_of}
use Rattle.set_file.specs.declared.rows.Rows.{Rows}
use Rattle.lookup.proofs.Stretches.{stretch_length}
use Rattle.stepping.specs.RowBytes.{cells_of}
use Rattle.stepping.proofs.Written.{take_cells}
use Rattle.proof_rules.specs.Judging.{row_at}
use Rattle.judging.proofs.Members.{same_body, same_width, same_count}

module _ (n : ℕ) (some : some_parts n ≡ true) (body : List ℕ) (rows : Rows) (e : shape rows ≡ shape_of n body) where
  pub count_of : rows.count ≡ row_count (width n) body
  count_of = same_count n some rows body e

  -- after row k was loaded, the record's first cells are row k
  pub loaded_row : (k : ℕ) (old new : List ℕ) → k < rows.count →
      new ≡ loaded rows.width rows.body.now rows.count k old → take n (cells_of new) ≡ row_at n body k
  loaded_row k old new l is =
      let s = stretch (width n) body k in
      let there : k < row_count (width n) body = omega (arith, count_of) in
      let long = stretch_length (width n) body (row_count (width n) body) k there (div-mul-le_self (length body) (width n)) in
      let now : new ≡ s ++ drop (width n) old =
      is ∙ cond-true (ltb k rows.count) _ _ (lt-ltb k rows.count l)
      ∙ ap₂ (λ m b. stretch m b k ++ drop m old) (same_width n some rows body e) (same_body n some rows body e) in
      sym (take_cells n new) ∙ ap (λ bs. cells_of (take (width n) bs)) now
      ∙ ap cells_of (take_at s (drop (width n) old) (width n) long)

  -- a test of every row
  module _ (t : ℕ → Bool) (refusal : ℕ → Refusal) where
    pub found_at : (k : ℕ) → k < rows.count → ((j : ℕ) → j < k → t j ≡ true) → t k ≡ false →
        Err (refusal k) ≡ found refusal (seek t 0 (row_count (width n) body))
    found_at k l before here = sym (ap (found refusal) (first_some t (row_count (width n) body) k (omega (arith, count_of)) before here))

    pub found_nowhere : (k : ℕ) → rows.count ≤ k → ((j : ℕ) → j < k → t j ≡ true) →
        Ok tt ≡ found refusal (seek t 0 (row_count (width n) body))
    found_nowhere k l before =
        sym (ap (found refusal) (first_none t (row_count (width n) body) (λ j h. before j (omega (arith, count_of)))))
