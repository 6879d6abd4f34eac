-- A set's body passes exactly where it is the bytes of rows that keep the rules.
use Rattle.std.proofs.Common.{◌≡◌, ℕ, zero, suc, ◌+◌, ◌-◌, ◌*◌, ◌/◌, ◌%◌, ◌<◌, ◌≤◌, true, not, ◌||◌, ltb, leb, List, [], ◌∷◌, ◌++◌, map, length, get_or, take, drop, Ok, Ordering, Less, Equal, Greater, sym, refl, ap, ◌∙◌, subst, ap₂, suc-mul, mul_comm, zero-mul, mul-div_cancel, arith}
use native.Mathlib.Nat.{div-add-mod, mul-mod_left}
use Rattle.std.specs.List.{range_with_len, ContainsAt as Has, flat_map, AllByRecursion}
use Rattle.std.specs.Ordering.{is_lt}
use Rattle.std.proofs.lemmas.List.FromFn.{length-map-range_with_len, get_or-map-range_with_len, fill_by_all}
use Rattle.std.proofs.ByRecursion.{All-take, All-drop, All-get_or, All-from_get_or, All-weaker}
use Rattle.std.proofs.lemmas.List.{length-take-le, length-drop, take_all}
use Rattle.std.proofs.lemmas.Bool.{and_parts, and_from, eqb-true, eq-eqb, ne_eqb, leb-true, le-leb, ltb-true, lt-ltb, false≢true}
use Rattle.fddevs.specs.declared.refusal.Layer.TheVariants.{Proof}
use Rattle.fddevs.specs.declared.refusal.Refusal.TheVariants.{Body, RowPhase, RowOrder, StartAbsent, RowBarred, RowLeaves}
use Rattle.fddevs.specs.Machine.{Machine}
use Rattle.fddevs.specs.Rows.{Row}
use Rattle.fddevs.specs.Scheme.{Scheme}
use Rattle.fddevs.specs.Vetting.{Vetted, then, unless, found}
use Rattle.bars.specs.Bars.{barred}
use Rattle.book.specs.Records.{byte_order}
use Rattle.set_file.specs.Layout.{width, body_fits, stretch, row_count}
use Rattle.set_file.specs.Reading.{climbs}
use Rattle.set_file.proofs.Numbered.{inside}
use Rattle.set_file.proofs.Seeking.{seek_passed, seek_passes, then_passed, unless_passed}
use Rattle.set_file.proofs.Stretches.{joined_length, joined_stretch, stretches}
use Rattle.stepping.specs.RowBytes.{cells_of, row_bytes}
use Rattle.proof_rules.specs.Files.{Bytes, rows_bytes}
use Rattle.proof_rules.specs.Judging.{row_at, rows_in, in_order, phases_exist, all_stay, phases_vetting, order_vetting, start_vetting, bars_vetting, steps_vetting, rows_vetting, is_rows, set_vetting}
use Rattle.proof_rules.specs.Rules.{Bars, row_phases, OfParts, Ascending, Closed}
use Rattle.stepping.proofs.Written.{Shorts, bytes_back, read_short, cells_back}
use Rattle.proof_rules.proofs.Codec.{row_length}
use Rattle.proof_rules.proofs.Tested.{Passes, closed_to, closed_from}
use Rattle.proof_rules.proofs.Walks.{unless_true}

-- phases and remaining of a row
of_to : (ms : List Machine) (r : Row) → phases_exist ms r ≡ true → Shorts r → OfParts ms r
of_to [] [] h w = tt
of_to [] (c ∷ cs) h w = false≢true h
of_to (m ∷ ms) [] h w = false≢true h
of_to (m ∷ ms) (c ∷ cs) h w =
    let p = and_parts (ltb c.phase m.counts.phases) _ h in
    (ltb-true _ _ p.0, w.0, of_to ms cs p.1 w.1)

of_from : (ms : List Machine) (r : Row) → OfParts ms r → (phases_exist ms r ≡ true) × (length r ≡ length ms) × Shorts r
of_from [] [] h = (refl, refl, tt)
of_from [] (c ∷ cs) h = absurd h
of_from (m ∷ ms) [] h = absurd h
of_from (m ∷ ms) (c ∷ cs) h =
    let p = of_from ms cs h.2 in
    (and_from _ _ (lt-ltb _ _ h.0) p.0, ap suc p.1, (h.1, p.2))

-- a row that is not the first is in order where it climbs
pub later_climbs : (n : ℕ) (body : List ℕ) (k : ℕ) → 1 ≤ k → in_order n body k ≡ climbs (width n) body k
later_climbs n body k h = ap (λ b. b || climbs (width n) body k) (ne_eqb k 0 (λ e. omega arith))

-- what a body that passes is
pub record SetBody (S : Scheme) (bars : Bars) (body : List ℕ) : Type 0 where
  pub rows : List Row
  pub written : rows_bytes rows ≡ body
  pub limit : length body ≤ 4194304
  pub some : 1 ≤ length rows
  pub exist : AllByRecursion (OfParts S.parts) rows
  pub ascending : Ascending rows
  pub closed : Closed S bars rows

is_less : (o : Ordering) → is_lt o ≡ true → o ≡ Less
is_less Less h = refl
is_less Equal h = absurd (false≢true h)
is_less Greater h = absurd (false≢true h)

then_from : (v w : Vetted) → v ≡ Ok tt → w ≡ Ok tt → then v w ≡ Ok tt
then_from v w h k = ap (λ x. then x w) h ∙ k

-- the rows of a body
module _ (n : ℕ) (body : List ℕ) where
  pub rows_count : length (rows_in n body) ≡ row_count (width n) body
  rows_count = length-map-range_with_len (row_at n body) 0 (row_count (width n) body)

  pub nth_row : (k : ℕ) (d : Row) → k < row_count (width n) body → get_or (rows_in n body) k d ≡ row_at n body k
  nth_row k d h = get_or-map-range_with_len (row_at n body) 0 (row_count (width n) body) k k d h (omega arith)

  pub row_there : (k : ℕ) → k < row_count (width n) body → Has (rows_in n body) (row_at n body k)
  row_there k h = (k, omega (arith, rows_count), λ d. nth_row k d h)

  pub each_row : (P : Row → Type 0) → ((k : ℕ) → k < row_count (width n) body → P (row_at n body k)) →
      (r : Row) → Has (rows_in n body) r → P r
  each_row P f r i =
      let l : i.0 < row_count (width n) body = omega (arith, i.1, rows_count) in
      subst P (sym (nth_row i.0 [] l) ∙ i.2 []) (f i.0 l)

  stretch_length : (k : ℕ) → k < row_count (width n) body → length (stretch (width n) body k) ≡ width n
  stretch_length k h =
      length-take-le (width n) (drop (k * width n) body)
      (omega (arith, length-drop (k * width n) body, inside k (width n) (length body) h))

  stretch_bytes : Bytes body → (k : ℕ) → Bytes (stretch (width n) body k)
  stretch_bytes b k = All-take _ (width n) (drop (k * width n) body) (All-drop _ (k * width n) body b)

  pub row_written : Bytes body → (k : ℕ) → k < row_count (width n) body → row_bytes (row_at n body k) ≡ stretch (width n) body k
  row_written b k h = bytes_back n (stretch (width n) body k) (stretch_length k h) (stretch_bytes b k)

  rows_written : Bytes body → (a m : ℕ) → a + m ≤ row_count (width n) body →
      flat_map row_bytes (map (row_at n body) (range_with_len a m)) ≡ flat_map (stretch (width n) body) (range_with_len a m)
  rows_written b a zero h = refl
  rows_written b a (suc m) h = ap₂ ◌++◌ (row_written b a (omega arith)) (rows_written b (a + 1) m (omega arith))

  pub body_written : Bytes body → length body ≡ row_count (width n) body * width n → rows_bytes (rows_in n body) ≡ body
  body_written b e =
      rows_written b 0 (row_count (width n) body) (omega arith)
      ∙ stretches (width n) body 0 (row_count (width n) body)
      ∙ ap₂ (λ m j. take m (drop j body)) (sym e) (zero-mul (width n))
      ∙ take_all (length body) body (omega arith)

  rows_ascend : Bytes body → ((k : ℕ) → 1 ≤ k → k < row_count (width n) body → climbs (width n) body k ≡ true) →
      Ascending (rows_in n body)
  rows_ascend b f k h =
      let l : suc k < row_count (width n) body = omega (arith, rows_count) in
      let before : suc k - 1 ≡ k = omega arith in
      let up : is_lt (byte_order (stretch (width n) body k) (stretch (width n) body (suc k))) ≡ true =
      ap (λ j. is_lt (byte_order (stretch (width n) body j) (stretch (width n) body (suc k)))) (sym before)
      ∙ f (suc k) (omega arith) l in
      ap₂ (λ x y. byte_order x y)
      (ap row_bytes (nth_row k [] (omega arith)) ∙ row_written b k (omega arith))
      (ap row_bytes (nth_row (suc k) [] l) ∙ row_written b (suc k) l)
      ∙ is_less _ up

module _ (S : Scheme) (bars : Bars) (n : ℕ) (some : 1 ≤ n) (body : List ℕ) where
  pub set_to : Bytes body → set_vetting S bars n body ≡ Ok tt → SetBody S bars body
  set_to b h =
      let p = then_passed (unless (is_rows n body) (Body Proof)) (rows_vetting S bars n body) h in
      let fits = and_parts (body_fits (length body)) _ (unless_passed (is_rows n body) (Body Proof) p.0) in
      let size = and_parts (leb 1 (length body)) _ fits.0 in
      let one = leb-true 1 (length body) size.0 in
      let zeros = eqb-true (length body % width n) 0 fits.1 in
      let long : length body ≡ row_count (width n) body * width n =
      omega (arith, div-add-mod (length body) (width n), mul_comm (width n) (row_count (width n) body)) in
      let q = then_passed (phases_vetting S.parts n body) _ p.1 in
      let r = then_passed (order_vetting n body) _ q.1 in
      let s = then_passed (start_vetting S n body) _ r.1 in
      let t = then_passed (bars_vetting bars n body) (steps_vetting S n body) s.1 in
      let c = row_count (width n) body in
      let exists = λ (k : ℕ) (l : k < c). of_to S.parts (row_at n body k)
      (seek_passed RowPhase (λ k. phases_exist S.parts (row_at n body k)) 0 c q.0 k (omega arith) (omega arith))
      (read_short (stretch (width n) body k) (stretch_bytes n body b k)) in
      record {
        rows = rows_in n body;
        written = body_written n body b long;
        limit = leb-true (length body) 4194304 size.1;
        some = omega (arith, rows_count n body, positive c (length body) one long);
        exist = All-from_get_or (OfParts S.parts) (rows_in n body) []
            (λ k l. let m : k < c = omega (arith, rows_count n body) in subst (OfParts S.parts) (sym (nth_row n body k [] m)) (exists k m));
        ascending = rows_ascend n body b
            (λ k l m. sym (later_climbs n body k l) ∙ seek_passed (RowOrder Proof) (in_order n body) 0 c r.0 k (omega arith) (omega arith));
        closed = closed_to S bars (rows_in n body) (record {
          starts = unless_passed _ StartAbsent s.0;
          unbarred = each_row n body _
              (λ k l. seek_passed RowBarred (λ k. not (barred bars (row_phases (row_at n body k)))) 0 c t.0 k (omega arith) (omega arith));
          stay = each_row n body _
              (λ k l. seek_passed RowLeaves (λ k. all_stay S (rows_in n body) (row_at n body k)) 0 c t.1 k (omega arith) (omega arith));
        });
      }
    where
      positive : (k l : ℕ) → 1 ≤ l → l ≡ k * width n → 1 ≤ k
      positive zero l h e = omega (arith, zero-mul (width n))
      positive (suc k) l h e = omega arith

  pub set_from : length S.parts ≡ n → SetBody S bars body → set_vetting S bars n body ≡ Ok tt
  set_from parts s =
      let rows = s.rows in
      let c = row_count (width n) body in
      let shapes = All-weaker (OfParts S.parts) (λ r. length (row_bytes r) ≡ width n)
      (λ r o. row_length r ∙ ap (λ m. 3 * m) ((of_from S.parts r o).1 ∙ parts)) rows s.exist in
      let long : length body ≡ length rows * width n = ap length (sym s.written) ∙ joined_length (width n) row_bytes rows shapes in
      let counted : c ≡ length rows = ap (λ len. len / width n) long ∙ mul-div_cancel (length rows) (omega arith) in
      let whole : length body % width n ≡ 0 = ap (λ len. len % width n) long ∙ mul-mod_left (length rows) (width n) in
      let nth = λ (k : ℕ) (l : k < length rows).
      ap (λ b. stretch (width n) b k) (sym s.written) ∙ joined_stretch (width n) row_bytes rows shapes k [] l in
      let read = λ (k : ℕ) (l : k < length rows).
      ap cells_of (nth k l) ∙ cells_back (get_or rows k []) (of_from S.parts (get_or rows k []) (All-get_or (OfParts S.parts) rows k [] l s.exist)).2 in
      let same : rows_in n body ≡ rows =
      sym (fill_by_all (row_at n body) rows c [] (sym counted) (λ k l. sym (read k (omega arith)))) in
      let passes = subst (Passes S bars) (sym same) (closed_from S bars rows s.closed) in
      let some = longer (length rows) (length body) s.some long in
      then_from _ _
      (unless_true _ (Body Proof) (and_from _ _ (and_from _ _ (le-leb 1 (length body) some) (le-leb (length body) 4194304 s.limit)) (eq-eqb _ _ whole)))
      (then_from _ _
      (ap (found RowPhase)
      (seek_passes (λ k. phases_exist S.parts (row_at n body k)) 0 c
      (λ k _ l. let m : k < length rows = omega arith in
      ap (phases_exist S.parts) (read k m) ∙ (of_from S.parts (get_or rows k []) (All-get_or (OfParts S.parts) rows k [] m s.exist)).0)))
      (then_from _ _
      (ap (found (RowOrder Proof)) (seek_passes (in_order n body) 0 c (λ k _ l. up nth s.ascending k (omega arith))))
      (then_from _ _ (unless_true _ StartAbsent passes.starts)
      (then_from _ _
      (ap (found RowBarred) (seek_passes _ 0 c (λ k _ l. passes.unbarred (row_at n body k) (row_there n body k (omega arith)))))
      (ap (found RowLeaves) (seek_passes _ 0 c (λ k _ l. passes.stay (row_at n body k) (row_there n body k (omega arith)))))))))
    where
      longer : (k l : ℕ) → 1 ≤ k → l ≡ k * width n → 1 ≤ l
      longer zero l h e = absurd (omega arith)
      longer (suc k) l h e = omega (arith, suc-mul k (width n))

      up : ((k : ℕ) → k < length s.rows → stretch (width n) body k ≡ row_bytes (get_or s.rows k [])) → Ascending s.rows →
          (k : ℕ) → k < length s.rows → in_order n body k ≡ true
      up nth asc zero l = refl
      up nth asc (suc k) l =
          let before : suc k - 1 ≡ k = omega arith in
          later_climbs n body (suc k) (omega arith) ∙
          ap (λ j. is_lt (byte_order (stretch (width n) body j) (stretch (width n) body (suc k)))) before
          ∙ ap₂ (λ x y. is_lt (byte_order x y)) (nth k (omega arith)) (nth (suc k) l)
          ∙ ap is_lt (asc k l)
