-- Rows padded to records.
use Rattle.std.proofs.Common.{◌≡◌, ℕ, ◌+◌, ◌-◌, ◌<◌, min, List, [], ◌∷◌, map, length, get_or, take, drop, replicate, suc, Some, Option, sym, refl, ap, ◌∙◌, inl, inr, arith}
use Rattle.std.specs.List.{slice_get, filter_map, cons_option, range_with_len}
use Rattle.std.specs.Option.{option_map}
use Rattle.std.proofs.lemmas.List.{take_all, drop-replicate, length-map, get_or-map}
use Rattle.std.proofs.lemmas.Option.{slice_get-get_or}
use Rattle.std.proofs.lemmas.Bool.{cases_lt}
use Rattle.book.specs.declared.row.Row.{Row}
use Rattle.rewriting.specs.Records.{row_of}

-- the first m bytes, where m is the smaller of their number and n
pub take_least : (bytes : List ℕ) (m n : ℕ) → m ≡ min (length bytes) n → take m bytes ≡ take n bytes
take_least bytes m n e =
    elim (cases_lt n (length bytes)) [
      | inl h ↦ let s : m ≡ n = omega arith in ap (λ k. take k bytes) s
      | inr h ↦ take_all m bytes (omega arith) ∙ sym (take_all n bytes (omega arith))
    ]

pub zeros_left : (bytes : List ℕ) (m n : ℕ) → m ≡ min (length bytes) n → drop {A = ℕ} m (replicate n 0) ≡ replicate (n - length bytes) 0
zeros_left bytes m n e =
    let s : n - m ≡ n - length bytes = omega arith in
    drop-replicate m n 0 ∙ ap (λ k. replicate {A = ℕ} k 0) s

-- what a search of every place finds
hits : (g : ℕ → Option Row) (a : ℕ) (ys : List Row) → ((k : ℕ) (d : Row) → k < length ys → g (a + k) ≡ Some (get_or ys k d)) →
    filter_map g (range_with_len a (length ys)) ≡ ys
hits g a [] h = refl
hits g a (y ∷ ys) h =
    let e : a ≡ a + 0 = omega arith in
    let here : g a ≡ Some y = ap g e ∙ h 0 y (omega arith) in
    let more = hits g (a + 1) ys (λ k d l. (let f : a + 1 + k ≡ a + suc k = omega arith in ap g f ∙ h (suc k) d (omega arith))) in
    λ i. cons_option (here i) (more i)

-- the records of rows that are read one by one
pub all_rows : (rows : List (List ℕ)) (n : ℕ) → n ≡ length rows →
    filter_map (λ k. option_map row_of (slice_get rows k)) (range_with_len 0 n) ≡ map row_of rows
all_rows rows n e =
    let g : ℕ → Option Row = λ k. option_map row_of (slice_get rows k) in
    let long = length-map rows row_of in
    ap (λ m. filter_map g (range_with_len 0 m)) (e ∙ sym long)
    ∙ hits g 0 (map row_of rows) (λ k d l.
    let z : 0 + k ≡ k = omega arith in
    let there : k < length rows = omega arith in
    ap g z ∙ ap (option_map row_of) (slice_get-get_or rows k [] there) ∙ ap Some (sym (get_or-map row_of rows k [] d there)))
