-- Rows whose bytes beyond the first w are 0 are ordered as their first w bytes.
use Rattle.std.proofs.Common.{◌≡◌, ℕ, zero, suc, Bool, true, false, ◌&&◌, eqb, List, [], ◌∷◌, length, take, drop, sym, refl, ap, ◌∙◌, arith, eqb-true}
use Rattle.std.specs.Ordering.{ordering_then, nat_cmp}
use Rattle.book.specs.Records.{byte_order}
use Rattle.book.specs.Orders.{bytes_total}
use Rattle.set_file.specs.Writing.{zeros}

both : (a b : Bool) → (a && b) ≡ true → (a ≡ true) × (b ≡ true)
both true b e = (refl, e)
both false b e = absurd (let z : ◌≡◌ {A = ℕ} 0 1 = cc in omega arith)

-- bytes that are all 0 differ in their number alone
same_zeros : (xs ys : List ℕ) → length xs ≡ length ys → zeros xs ≡ true → zeros ys ≡ true → xs ≡ ys
same_zeros [] [] l p q = refl
same_zeros [] (y ∷ ys) l p q = absurd (omega arith)
same_zeros (x ∷ xs) [] l p q = absurd (omega arith)
same_zeros (x ∷ xs) (y ∷ ys) l p q =
    let a = both (eqb x 0) (zeros xs) p in
    let b = both (eqb y 0) (zeros ys) q in
    let e : x ≡ y = eqb-true x 0 a.0 ∙ sym (eqb-true y 0 b.0) in
    λ i. e i ∷ same_zeros xs ys (omega arith) a.1 b.1 i

pub front_order : (w : ℕ) (xs ys : List ℕ) → length xs ≡ length ys → zeros (drop w xs) ≡ true → zeros (drop w ys) ≡ true →
    byte_order (take w xs) (take w ys) ≡ byte_order xs ys
front_order zero xs ys l p q =
    sym (ap (byte_order xs) (sym (same_zeros xs ys l p q)) ∙ bytes_total.itself xs)
front_order (suc w) [] [] l p q = refl
front_order (suc w) [] (y ∷ ys) l p q = absurd (omega arith)
front_order (suc w) (x ∷ xs) [] l p q = absurd (omega arith)
front_order (suc w) (x ∷ xs) (y ∷ ys) l p q = ap (ordering_then (nat_cmp x y)) (front_order w xs ys (omega arith) p q)
