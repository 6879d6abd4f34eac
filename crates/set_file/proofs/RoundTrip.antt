-- What was written is read again.
use Rattle.std.proofs.Common.{◌≡◌, ℕ, ◌-◌, ◌*◌, ◌%◌, ◌<◌, ◌≤◌, true, leb, List, ◌++◌, map, length, take, drop, IfOk, Ok, Err, Result, sym, refl, ap, ◌∙◌, arith}
use native.Mathlib.Nat.{mul-mod_left}
use Rattle.std.specs.List.{flat_map}
use Rattle.std.specs.Ordering.{is_lt}
use Rattle.std.proofs.lemmas.List.{take_at}
use Rattle.std.proofs.lemmas.Bool.Decides.{nat_tests}
use Rattle.fddevs.specs.declared.refusal.Layer.TheVariants.{BookAndPlayback}
use Rattle.fddevs.specs.declared.refusal.Refusal.{Refusal}
use Rattle.fddevs.specs.declared.refusal.Refusal.TheVariants.{NoRoom, RowParts, Body, RowBytes, RowOrder}
use Rattle.fddevs.specs.Vetting.{Vetted, then, unless, seek, found}
use Rattle.book.specs.declared.row.Row.{Row}
use Rattle.book.specs.Records.{byte_order}
use Rattle.set_file.specs.Layout.{some_parts, width, body_fits, front, set_file, said_length}
use Rattle.set_file.specs.Reading.{head_vetting, climbs, order_vetting, rows_of, vetted, read_set}
use Rattle.set_file.specs.Writing.{row_at, Whole, file_length, size_vetting, clean_at, bytes_vetting, rises, rows_vetting, write_vetting, written, or_else, left, ReadBack}
use Rattle.set_file.proofs.Seeking.{seek_passed, seek_passes, then_passed, unless_passed}
use Rattle.set_file.proofs.Fronts.{front_order}
use Rattle.set_file.proofs.Body.{body_length, body_row, body_count, body_rows, said_head}

-- rows that the writer accepts
pub record Accepted (n : ℕ) (rows : List Row) : Type 0 where
  pub parts : some_parts n ≡ true
  pub fits : body_fits (length rows * width n) ≡ true
  pub clean : (k : ℕ) → k < length rows → clean_at (width n) rows k ≡ true
  pub rise : (k : ℕ) → 1 ≤ k → k < length rows → rises rows k ≡ true
  pub whole : Whole rows (length rows)

accepted : (n : ℕ) (rows : List Row) (size : ℕ) → Whole rows (length rows) → write_vetting n rows size ≡ Ok tt → Accepted n rows
accepted n rows size f e =
    let a = then_passed (size_vetting n (length rows) size) _ e in
    let b = then_passed (bytes_vetting (width n) rows) (rows_vetting rows) a.1 in
    let c = then_passed (unless (some_parts n) RowParts) _ a.0 in
    let d = then_passed (unless (leb (file_length n (length rows)) size) NoRoom) _ c.1 in
    record {
      parts = unless_passed (some_parts n) RowParts c.0;
      fits = unless_passed (body_fits (length rows * width n)) (Body BookAndPlayback) d.1;
      clean = λ k h. seek_passed RowBytes (clean_at (width n) rows) 0 (length rows) b.0 k (omega arith) (omega arith);
      rise = λ k l h. seek_passed (RowOrder BookAndPlayback) (rises rows) 1 (length rows - 1) b.1 k l (omega arith);
      whole = f;
    }

module _ (n : ℕ) (rows : List Row) (a : Accepted n rows) where
  some : 1 ≤ n
  some = let p = a.parts in grind (arith, nat_tests)

  few : n ≤ 16
  few = let p = a.parts in grind (arith, nat_tests)

  most : length rows * width n ≤ 4194304
  most = let p = a.fits in grind (arith, nat_tests)

  small : width n ≤ 48
  small = omega (arith, few)

  wide : 0 < width n
  wide = omega (arith, some)

  abbrev body : List ℕ
  body = flat_map (front (width n)) rows

  long : length (set_file n rows) ≡ file_length n (length rows)
  long = omega (arith, body_length (width n) small rows a.whole)

  said : said_length (set_file n rows) ≡ length rows * width n
  said = said_head (length rows * width n) body (omega (arith, most))

  head_well : head_vetting n (set_file n rows) ≡ Ok tt
  head_well =
      let l = long in
      let m = said in
      let p = a.parts in
      let q = a.fits in
      let z : said_length (set_file n rows) % width n ≡ 0 = ap (λ k. k % width n) m ∙ mul-mod_left (length rows) (width n) in
      grind (arith, nat_tests)

  rises_still : (k : ℕ) → 1 ≤ k → k < length rows → climbs (width n) body k ≡ true
  rises_still k l h =
      let w = width n in
      (λ i. is_lt (byte_order (body_row w small rows a.whole (k - 1) (omega arith) i) (body_row w small rows a.whole k h i)))
      ∙ ap is_lt (front_order w (row_at rows (k - 1)).bytes (row_at rows k).bytes
      (a.whole (k - 1) (omega arith) ∙ sym (a.whole k h)) (a.clean (k - 1) (omega arith)) (a.clean k h))
      ∙ a.rise k l h

  order_well : order_vetting (width n) body ≡ Ok tt
  order_well =
      ap (found (RowOrder BookAndPlayback))
      (ap (λ c. seek (climbs (width n) body) 1 (c - 1)) (body_count (width n) small rows a.whole wide)
      ∙ seek_passes (climbs (width n) body) 1 (length rows - 1) (λ k l h. rises_still k l (omega arith)))

  pub reads : read_set n (set_file n rows) ≡ Ok (map (front (width n)) rows)
  reads =
      (λ i. vetted (then (head_well i) (order_well i)) (rows_of (width n) body))
      ∙ ap Ok (body_rows (width n) small rows a.whole wide)

-- a length was answered where nothing was refused
answered : (v : Vetted) (m size : ℕ) → vetted v m ≡ Ok size → (v ≡ Ok tt) × (m ≡ size)
answered (Ok _) m size e = (refl, cc)
answered (Err x) m size e = absurd (let z : ◌≡◌ {A = ℕ} 0 1 = cc in omega arith)

pub read_back : (n : ℕ) (rows : List Row) (out : List ℕ) (r : Result ℕ Refusal) (ys : List ℕ) →
    r ≡ written n rows (length out) → ys ≡ left n rows out → IfOk r (λ _. Whole rows (length rows)) → ReadBack n rows r ys
read_back n rows out (Err x) ys er ey f = tt
read_back n rows out (Ok size) ys er ey f =
    let w = answered (write_vetting n rows (length out)) (file_length n (length rows)) size (sym er) in
    let a = accepted n rows (length out) f w.0 in
    let t : ys ≡ set_file n rows ++ drop (file_length n (length rows)) out =
    ey ∙ ap (λ v. or_else v (set_file n rows ++ drop (file_length n (length rows)) out) out) w.0 in
    let p : take size ys ≡ set_file n rows =
    ap (take size) t
    ∙ take_at (set_file n rows) (drop (file_length n (length rows)) out) size (long n rows a ∙ w.1) in
    ap (read_set n) p ∙ reads n rows a
