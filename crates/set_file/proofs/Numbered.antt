-- Rows of equal length, one behind the other.
use Rattle.std.proofs.Common.{◌≡◌, ℕ, ◌+◌, ◌*◌, ◌/◌, ◌<◌, ◌≤◌, ltb, Bool, true, false, ◌-◌, ◌&&◌, List, [], None, Some, Option, MatchOption, sym, ap, ◌∙◌, inl, inr, mul-le-mul_right, add-mul, div-mul-le_self, arith, le-ltb, lt-ltb, le-leb}
use Rattle.std.specs.List.{slice_get}
use Rattle.std.proofs.lemmas.Bool.{cases_lt}
use Rattle.std.proofs.lemmas.List.FromFn.{length-map-range_with_len, get_or-map-range_with_len}
use Rattle.std.proofs.lemmas.Option.{slice_get-get_or, slice_get_past}
use Rattle.fddevs.specs.Machine.{when}
use Rattle.fddevs.specs.Vetting.{seek}
use Rattle.set_file.proofs.Seeking.{seek_from}
use Rattle.set_file.specs.Layout.{stretch, row_count}
use Rattle.set_file.specs.Reading.{climbs, rows_of}
use Rattle.set_file.specs.Rows.{climbs_at}

pub one_more : (k w n : ℕ) → k < n → k * w + w ≤ n * w
one_more k w n h =
    let m : (k + 1) * w ≤ n * w = mul-le-mul_right w (omega arith) in
    omega (arith, add-mul k 1 w)

pub inside : (k w len : ℕ) → k < len / w → k * w + w ≤ len
inside k w len h = omega (arith, one_more k w (len / w) h, div-mul-le_self len w)

-- where row k and a row before it are there, the answer of `climbs` is about them
pub climbs_there : (w : ℕ) (body : List ℕ) (n k : ℕ) → 1 ≤ k → k < n → climbs_at w body n k ≡ climbs w body k
climbs_there w body n k h l = (λ i. le-leb 1 k h i && lt-ltb k n l i && climbs w body k)

-- row k of the rows of a body is its stretch, if it has one
pub row_there : (w : ℕ) (body : List ℕ) (k : ℕ) → when (ltb k (row_count w body)) (stretch w body k) ≡ slice_get (rows_of w body) k
row_there w body k =
    let m = length-map-range_with_len (stretch w body) 0 (row_count w body) in
    elim (cases_lt k (row_count w body)) [
      | inl h ↦
          ap (λ b. when b (stretch w body k)) (lt-ltb k (row_count w body) h)
          ∙ sym
          (slice_get-get_or (rows_of w body) k [] (omega arith)
          ∙ ap Some (get_or-map-range_with_len (stretch w body) 0 (row_count w body) k k [] h (omega arith)))
      | inr h ↦
          ap (λ b. when b (stretch w body k)) (le-ltb k (row_count w body) h)
          ∙ sym (slice_get_past (rows_of w body) k (omega arith))
    ]

-- what a search for the first row that does not climb finds
pub first_that_falls : (w : ℕ) (body : List ℕ) (n : ℕ) (r : Option ℕ) → n ≡ row_count w body →
    MatchOption r ((k : ℕ) → 1 ≤ k → k < n → climbs_at w body n k ≡ true)
    (λ i. (1 ≤ i) × (i < n) × (climbs_at w body n i ≡ false) × ((k : ℕ) → 1 ≤ k → k < i → climbs_at w body n k ≡ true)) →
    r ≡ seek (climbs w body) 1 (row_count w body - 1)
first_that_falls w body n r e h =
    sym (seek_from (climbs w body) 1 n r (there r h)) ∙ ap (λ m. seek (climbs w body) 1 (m - 1)) e
  where
    at : (k : ℕ) (b : Bool) → 1 ≤ k → k < n → climbs_at w body n k ≡ b → climbs w body k ≡ b
    at k b l u t = sym (climbs_there w body n k l u) ∙ t

    there : (r : Option ℕ) → MatchOption r ((k : ℕ) → 1 ≤ k → k < n → climbs_at w body n k ≡ true)
        (λ i. (1 ≤ i) × (i < n) × (climbs_at w body n i ≡ false) × ((k : ℕ) → 1 ≤ k → k < i → climbs_at w body n k ≡ true)) →
        MatchOption r ((k : ℕ) → 1 ≤ k → k < n → climbs w body k ≡ true)
        (λ i. (1 ≤ i) × (i < n) × (climbs w body i ≡ false) × ((k : ℕ) → 1 ≤ k → k < i → climbs w body k ≡ true))
    there None f = λ k l u. at k true l u (f k l u)
    there (Some i) f = (f.0, f.1, at i false f.0 f.1 f.2, λ k l u. at k true l (omega (arith, f.1)) (f.3 k l u))
