-- A record that is found among the rows of a set, and one that is not.
use Rattle.std.proofs.Common.{◌≡◌, ℕ, zero, suc, ◌+◌, ◌-◌, ◌*◌, ◌<◌, ◌≤◌, true, false, cond, List, [], ◌∷◌, length, get_or, take, Some, Ok, sub-one, sym, refl, ap, ◌∙◌, subst, ⊎_elim, div-mul-le_self, arith, length-take}
use Rattle.std.specs.List.{ContainsAt as Has}
use Rattle.std.proofs.ByRecursion.{All-take}
use Rattle.std.proofs.lemmas.Bool.{and_from, le-leb, cond-true, cases_Bool}
use Rattle.fddevs.specs.declared.refusal.Layer.TheVariants.{Proof}
use Rattle.fddevs.specs.declared.refusal.Refusal.TheVariants.{RowOrder}
use Rattle.fddevs.specs.Machine.{Family, WithinLimits}
use Rattle.fddevs.specs.Rows.{Row}
use Rattle.book.specs.declared.row.Row.{Row as Record}
use Rattle.set_file.specs.Layout.{some_parts, width, front, stretch, row_count}
use Rattle.fddevs.specs.Vetting.{seek}
use Rattle.set_file.specs.Reading.{climbs}
use Rattle.set_file.proofs.Seeking.{seek_passed}
use Rattle.lookup.specs.Finding.{Rising, Here, Nowhere}
use Rattle.lookup.specs.Shape.{Shape, shape, shape_of}
use Rattle.set_file.specs.declared.rows.Rows.{Rows}
use Rattle.lookup.proofs.Rising.{rising}
use Rattle.lookup.proofs.Stretches.{stretch_length}
use Rattle.stepping.specs.RowBytes.{cells_of, row_bytes}
use Rattle.stepping.proofs.Written.{take_cells, bytes_back}
use Rattle.proof_rules.specs.Files.{Bytes}
use Rattle.proof_rules.specs.Judging.{row_at, rows_in, in_order, among, order_vetting}
use Rattle.proof_rules.proofs.Codec.{row_length}
use Rattle.proof_rules.proofs.Sets.{row_there, each_row, row_written, later_climbs}
use Rattle.proof_rules.proofs.Tested.{among_has, has_among}
use Rattle.judging.specs.Set.{IsSet}

pub some_of : (F : Family) → WithinLimits F → some_parts F.count ≡ true
some_of F limits = and_from _ _ (le-leb 1 F.count limits.some) (le-leb F.count 16 limits.few)

cells_bound : (bs : List ℕ) → 3 * length (cells_of bs) ≤ length bs
cells_bound [] = omega arith
cells_bound (p ∷ []) = omega arith
cells_bound (p ∷ a ∷ []) = omega arith
cells_bound (p ∷ a ∷ b ∷ bs) = omega (arith, cells_bound bs)

-- the width and the number of the rows of n parts
module _ (n : ℕ) (some : some_parts n ≡ true) (rows : Rows) (body : List ℕ) (e : shape rows ≡ shape_of n body) where
  taken : shape_of n body ≡ record { body = body; width = width n; count = row_count (width n) body }
  taken = cond-true (some_parts n) _ _ some

  pub same_body : rows.body.now ≡ body
  same_body = ap (λ (s : Shape). s.body) (e ∙ taken)

  pub same_width : rows.width ≡ width n
  same_width = ap (λ (s : Shape). s.width) (e ∙ taken)

  pub same_count : rows.count ≡ row_count (width n) body
  same_count = ap (λ (s : Shape). s.count) (e ∙ taken)

module _ (F : Family) (limits : WithinLimits F) (rows : Rows) (set : IsSet F rows) (r : Record) where
  w : rows.width ≡ width F.count
  w = same_width F.count (some_of F limits) rows rows.body.now set.parts

  c : rows.count ≡ row_count (width F.count) rows.body.now
  c = same_count F.count (some_of F limits) rows rows.body.now set.parts

  pub found_among : (k : ℕ) → Here rows.width rows.body.now rows.count (front rows.width r) k →
      true ≡ among (rows_in F.count rows.body.now) (take F.count (cells_of r.bytes))
  found_among k h =
      let body = rows.body.now in
      let there = row_there F.count body k (omega (arith, h.within, c)) in
      let same : row_at F.count body k ≡ take F.count (cells_of r.bytes) =
      ap (λ m. cells_of (stretch m body k)) (sym w) ∙ ap cells_of h.same ∙ ap (λ m. cells_of (take m r.bytes)) w ∙ take_cells F.count r.bytes in
      sym (has_among (rows_in F.count body) _ (subst (Has (rows_in F.count body)) same there))

  pub none_among : Bytes r.bytes → Nowhere rows.width rows.body.now rows.count (front rows.width r) →
      false ≡ among (rows_in F.count rows.body.now) (take F.count (cells_of r.bytes))
  none_among b nowhere =
      ⊎_elim (λ t. absurd (each_row F.count rows.body.now (λ x. x ≡ mine → ⊥) none mine (among_has _ mine t) refl)) sym
      (cases_Bool (among (rows_in F.count rows.body.now) mine))
    where
      mine : Row
      mine = take F.count (cells_of r.bytes)

      none : (k : ℕ) → k < row_count (width F.count) rows.body.now → row_at F.count rows.body.now k ≡ mine → ⊥
      none k l e =
          let body = rows.body.now in
          let n = F.count in
          let cells : row_at n body k ≡ cells_of (take (width n) r.bytes) = e ∙ sym (take_cells n r.bytes) in
          let bound = cells_bound (take (width n) r.bytes) in
          let short = length-take (width n) r.bytes in
          let size = stretch_length (width n) body (row_count (width n) body) k l (div-mul-le_self (length body) (width n)) in
          let each = row_length (row_at n body k) in
          let there = ap length (row_written n body set.bytes k l) in
          let counted = ap length cells in
          let long : length (take (width n) r.bytes) ≡ 3 * n = omega arith in
          nowhere k (omega (arith, c))
          (ap (λ m. stretch m body k) w ∙ sym (row_written n body set.bytes k l) ∙ ap row_bytes cells
          ∙ bytes_back n (take (width n) r.bytes) long (All-take _ (width n) r.bytes b) ∙ ap (λ m. take m r.bytes) (sym w))

bytes_of : (xs : List ℕ) → ((k : ℕ) → get_or xs k 0 < 256) → Bytes xs
bytes_of [] h = tt
bytes_of (x ∷ xs) h = (h 0, bytes_of xs (λ k. h (suc k)))

-- what is known of rows in which steps are looked up
pub is_set : (F : Family) (rows : Rows) → shape rows ≡ shape_of F.count rows.body.now →
    ((k : ℕ) → get_or rows.body.now k 0 < 256) → Rising rows.width rows.body.now rows.count → IsSet F rows
is_set F rows parts bytes up = record { parts = parts; bytes = bytes_of rows.body.now bytes; rising = up }

-- the first row out of order is the first that is not above the one before it
module _ (n : ℕ) (body : List ℕ) where
  later : (m a : ℕ) → 1 ≤ a → seek (in_order n body) a m ≡ seek (climbs (width n) body) a m
  later zero a h = refl
  later (suc m) a h =
      rw (later_climbs n body a h) (ap (λ o. cond (climbs (width n) body a) o (Some a)) (later m (a + 1) (omega arith)))

  pub first_out_of_order : (m : ℕ) → seek (in_order n body) 0 m ≡ seek (climbs (width n) body) 1 (m - 1)
  first_out_of_order zero = refl
  first_out_of_order (suc m) = rw sub-one (later m 1 (omega arith))

-- rows that were found to ascend are a set to search
pub set_of : (F : Family) → WithinLimits F → (body : List ℕ) (rows : Rows) → shape rows ≡ shape_of F.count body → Bytes body →
    order_vetting F.count body ≡ Ok tt → IsSet F rows
set_of F limits body rows e bytes ordered =
    let n = F.count in
    let some = some_of F limits in
    let same = same_body n some rows body e in
    let climb = λ (k : ℕ) (l : 1 ≤ k) (m : k < row_count (width n) body).
    sym (later_climbs n body k l)
    ∙ seek_passed (RowOrder Proof) (in_order n body) 0 (row_count (width n) body) ordered k (omega arith) (omega arith) in
    record {
      parts = e ∙ ap (shape_of n) (sym same);
      bytes = subst Bytes (sym same) bytes;
      rising =
          subst (λ (s : Shape). Rising s.width s.body s.count) (sym (e ∙ taken n some rows body e))
          (rising (width n) body (row_count (width n) body) climb);
    }
