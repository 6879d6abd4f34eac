-- Bytes are what their cells write, and short cells are what their bytes write.
use Rattle.std.proofs.Common.{◌≡◌, ℕ, zero, suc, ◌+◌, ◌*◌, ◌/◌, ◌%◌, ◌<◌, ◌≤◌, false, eqb, List, [], ◌∷◌, ◌++◌, length, take, sym, refl, ap, ◌∙◌, ⊎_elim, arith}
use Rattle.std.specs.List.{AllByRecursion}
use Rattle.std.proofs.ByRecursion.{All-take}
use Rattle.std.proofs.lemmas.List.{length-take-le}
use Rattle.std.proofs.lemmas.Bool.{cases_Bool, eqb-true, ne_eqb}
use Rattle.fddevs.specs.declared.part.Span.{Span}
use Rattle.fddevs.specs.declared.part.Span.TheVariants.{Ticks, Unlimited}
use Rattle.fddevs.specs.Machine.{Short}
use Rattle.fddevs.specs.Rows.{Row}
use Rattle.stepping.specs.RowBytes.{Bytes, cell_of, cells_of, span_bytes, row_bytes}
use Rattle.fddevs.specs.Bytes.{span_of}
use Rattle.stepping.proofs.Shorts.{short_read}

abbrev pub Shorts : Row → Type 0
Shorts r = AllByRecursion (λ c. Short c.remaining) r

next : (n : ℕ) → 3 * suc n ≡ suc (suc (suc (3 * n)))
next n = omega arith

-- the first n cells are in the first 3 n bytes
pub take_cells : (n : ℕ) (bs : List ℕ) → cells_of (take (3 * n) bs) ≡ take n (cells_of bs)
take_cells zero bs = refl
take_cells (suc n) [] = λ i. cells_of (take (next n i) [])
take_cells (suc n) (x ∷ []) = λ i. cells_of (take (next n i) (x ∷ []))
take_cells (suc n) (x ∷ y ∷ []) = λ i. cells_of (take (next n i) (x ∷ y ∷ []))
take_cells (suc n) (x ∷ y ∷ z ∷ bs) =
    (λ i. cells_of (take (next n i) (x ∷ y ∷ z ∷ bs))) ∙ ap (λ (cs : Row). cell_of x y z ∷ cs) (take_cells n bs)

span_back : (a b : ℕ) → a < 256 → b < 256 → span_bytes (span_of (a * 256 + b)) ≡ a ∷ b ∷ []
span_back a b h k =
    ⊎_elim
    (λ y.
    let e = eqb-true (a * 256 + b) 65535 y in
    let p : 255 ≡ a = omega arith in
    let q : 255 ≡ b = omega arith in
    rw y (λ i. p i ∷ q i ∷ []))
    (λ y.
    let p : (a * 256 + b) / 256 ≡ a = omega arith in
    let q : (a * 256 + b) % 256 ≡ b = omega arith in
    rw y (λ i. p i ∷ q i ∷ [])) (cases_Bool (eqb (a * 256 + b) 65535))

-- whole cells of bytes
pub bytes_back : (n : ℕ) (bs : List ℕ) → length bs ≡ 3 * n → Bytes bs → row_bytes (cells_of bs) ≡ bs
bytes_back n [] e u = refl
bytes_back n (x ∷ []) e u = absurd (omega arith)
bytes_back n (x ∷ y ∷ []) e u = absurd (omega arith)
bytes_back zero (x ∷ y ∷ z ∷ bs) e u = absurd (omega arith)
bytes_back (suc n) (x ∷ y ∷ z ∷ bs) e u = λ i.
    x ∷ (span_back y z u.1.0 u.1.1.0 i ++ bytes_back n bs (omega arith) u.1.1.1 i)

-- the first n cells write the first 3 n bytes
pub written : (n : ℕ) (bs : List ℕ) → 3 * n ≤ length bs → Bytes bs → row_bytes (take n (cells_of bs)) ≡ take (3 * n) bs
written n bs h u =
    ap row_bytes (sym (take_cells n bs))
    ∙ bytes_back n (take (3 * n) bs) (length-take-le (3 * n) bs h) (All-take (λ b. b < 256) (3 * n) bs u)

-- cells that are read from bytes are short
pub read_short : (bs : List ℕ) → Bytes bs → Shorts (cells_of bs)
read_short [] u = tt
read_short (x ∷ []) u = tt
read_short (x ∷ y ∷ []) u = tt
read_short (x ∷ y ∷ z ∷ bs) u =
    let a : y < 256 = u.1.0 in
    let b : z < 256 = u.1.1.0 in
    (short_read (y * 256 + z) (omega arith), read_short bs u.1.1.1)

pair_back : (x : ℕ) (s : Span) (r : Row) (bs : List ℕ) → Short s → cells_of bs ≡ r →
    cells_of (x ∷ (span_bytes s ++ bs)) ≡ record { phase = x; remaining = s } ∷ r
pair_back x (Ticks n) r bs h e =
    let v : n / 256 * 256 + n % 256 ≡ n = omega arith in
    let o : eqb n 65535 ≡ false = ne_eqb n 65535 (λ z. omega arith) in
    (λ i. record { phase = x; remaining = span_of (v i) } ∷ e i) ∙ rw o
pair_back x Unlimited r bs h e = λ i. record { phase = x; remaining = Unlimited } ∷ e i

-- short cells are read back from their bytes
pub cells_back : (r : Row) → Shorts r → cells_of (row_bytes r) ≡ r
cells_back [] h = refl
cells_back (c ∷ r) h = pair_back c.phase c.remaining r (row_bytes r) h.0 (cells_back r h.1)
