-- The body of a set file, row by row, and the length in its head.
use Rattle.std.proofs.Common.{◌≡◌, ℕ, suc, ◌+◌, ◌*◌, ◌/◌, ◌%◌, ◌<◌, ◌≤◌, List, [], ◌∷◌, ◌++◌, map, length, sym, ap, ◌∙◌, mul-div_cancel, arith}
use Rattle.std.specs.List.{flat_map, range_with_len, AllByRecursion}
use Rattle.std.proofs.lemmas.List.{length-take-le, length-map, get_or-map}
use Rattle.std.proofs.lemmas.List.FromFn.{fill_by_all}
use Rattle.std.proofs.lemmas.Nat.{shr-shr, div-add-mod'}
use Rattle.book.specs.declared.row.Row.{Row}
use Rattle.set_file.specs.Layout.{front, stretch, row_count, head, said_length}
use Rattle.set_file.specs.Reading.{rows_of}
use Rattle.set_file.specs.Writing.{row_at, Whole}
use Rattle.set_file.proofs.Stretches.{joined_length, joined_stretch}

module _ (w : ℕ) (small : w ≤ 48) where
  fronts : (rows : List Row) → Whole rows (length rows) → AllByRecursion (λ r. length (front w r) ≡ w) rows
  fronts [] f = tt
  fronts (r ∷ rows) f =
      (length-take-le w r.bytes (omega (arith, f 0 (omega arith))), fronts rows (λ k h. f (suc k) (omega arith)))

  pub body_length : (rows : List Row) → Whole rows (length rows) → length (flat_map (front w) rows) ≡ length rows * w
  body_length rows f = joined_length w (front w) rows (fronts rows f)

  pub body_row : (rows : List Row) → Whole rows (length rows) → (k : ℕ) → k < length rows →
      stretch w (flat_map (front w) rows) k ≡ front w (row_at rows k)
  body_row rows f k h = joined_stretch w (front w) rows (fronts rows f) k (record { bytes = [] }) h

  module _ (rows : List Row) (f : Whole rows (length rows)) (some : 0 < w) where
    pub body_count : row_count w (flat_map (front w) rows) ≡ length rows
    body_count = ap (λ len. len / w) (body_length rows f) ∙ mul-div_cancel (length rows) some

    pub body_rows : rows_of w (flat_map (front w) rows) ≡ map (front w) rows
    body_rows =
        ap (λ n. map (stretch w (flat_map (front w) rows)) (range_with_len 0 n)) body_count
        ∙ sym (fill_by_all (stretch w (flat_map (front w) rows)) (map (front w) rows) (length rows) [] (length-map rows (front w))
        (λ k h. get_or-map (front w) rows k (record { bytes = [] }) [] h ∙ sym (body_row rows f k h)))

-- the four bytes of a number, read again
digits : (n q1 q2 q3 r0 r1 r2 r3 : ℕ) → q1 * 256 + r0 ≡ n → q2 * 256 + r1 ≡ q1 → q3 * 256 + r2 ≡ q2 → r3 ≡ q3 →
    r3 * 16777216 + r2 * 65536 + r1 * 256 + r0 ≡ n
digits n q1 q2 q3 r0 r1 r2 r3 a b c d = omega arith

pub said_head : (len : ℕ) (bs : List ℕ) → len < 4294967296 → said_length (head len ++ bs) ≡ len
said_head len bs h =
    digits len (len / 256) (len / 65536) (len / 16777216) (len % 256) (len / 256 % 256) (len / 65536 % 256) (len / 16777216 % 256)
    (div-add-mod' len 256)
    (ap (λ q. q * 256 + len / 256 % 256) (sym (shr-shr len 8 8)) ∙ div-add-mod' (len / 256) 256)
    (ap (λ q. q * 256 + len / 65536 % 256) (sym (shr-shr len 16 8)) ∙ div-add-mod' (len / 65536) 256)
    (omega arith)
