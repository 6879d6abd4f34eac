-- A row more of a set file.
use Rattle.std.proofs.Common.{◌≡◌, ℕ, ◌+◌, ◌*◌, ◌<◌, ◌≤◌, List, [], ◌++◌, length, get_or, take, sym, ap, ◌∙◌, add-mul, arith, length-append}
use lib.Seq.{paste}
use borrow.Rule.Slice.PartMut.{put_mid}
use Rattle.std.specs.List.{flat_map}
use Rattle.std.proofs.lemmas.List.{take_more, flat_map_more}
use Rattle.std.proofs.lemmas.List.Edits.{paste-paste}
use Rattle.std.proofs.lemmas.Slice.{put_mid-paste}
use Rattle.book.specs.declared.row.Row.{Row}
use Rattle.set_file.specs.Layout.{front}

module _ (start : List ℕ) (rows : List Row) (w : ℕ) (long : 6 ≤ length start) where
  abbrev pub done : ℕ → List ℕ
  done i = flat_map (front w) (take i rows)

  -- the next row is written behind those that are
  pub row_more : (i at k v : ℕ) (d : Row) (out ys : List ℕ) → i < length rows → at ≡ 6 + i * w → k ≡ w → length (done i) ≡ i * w
      → out ≡ paste start 6 (done i) (i * w) → ys ≡ front v (get_or rows i d) → v ≡ w → length ys ≡ w
      → (length (done (i + 1)) ≡ (i + 1) * w) × (put_mid at k out ys ≡ paste start 6 (done (i + 1)) ((i + 1) * w))
  row_more i at k v d out ys h ea ek el eo ev e ew =
      let ey : ys ≡ front w (get_or rows i d) = ev ∙ ap (λ u. front u (get_or rows i d)) e in
      let t : done (i + 1) ≡ done i ++ front w (get_or rows i d) = ap (flat_map (front w)) (take_more rows i d h) ∙ sym (flat_map_more (front w) [] (take i rows) (get_or rows i d)) in
      let m : (i + 1) * w ≡ i * w + w = omega (arith, add-mul i 1 w) in
      let z : length (front w (get_or rows i d)) ≡ w = ap length (sym ey) ∙ ew in (
        ap length t ∙ length-append (done i) (front w (get_or rows i d)) ∙ omega arith,
        put_mid-paste at k out ys (front w (get_or rows i d)) w ey (sym ek) (sym z)
            ∙ (λ j. paste (eo j) (ea j) (front w (get_or rows i d)) w)
            ∙ paste-paste start 6 (done i) (front w (get_or rows i d)) (i * w) w (sym el) (sym z) long
            ∙ sym (λ j. paste start 6 (t j) (m j)),
      )
