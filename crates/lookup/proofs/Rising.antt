-- Rows rise where each is above the one before it.
use Rattle.std.proofs.Common.{◌≡◌, ℕ, zero, suc, ◌-◌, ◌<◌, ◌≤◌, true, List, Ordering, Less, Equal, Greater, refl, subst, inl, inr, arith}
use Rattle.std.specs.Ordering.{is_lt}
use Rattle.std.proofs.lemmas.Bool.{cases_lt}
use Rattle.book.specs.Records.{byte_order}
use Rattle.book.specs.Orders.{bytes_total}
use Rattle.set_file.specs.Layout.{stretch}
use Rattle.set_file.specs.Reading.{climbs}
use Rattle.lookup.specs.Finding.{Rising}
pub use Rattle.set_file.proofs.Numbered.{climbs_there}

is_less : (o : Ordering) → is_lt o ≡ true → o ≡ Less
is_less Less e = refl
is_less Equal e = absurd (let z : ◌≡◌ {A = ℕ} 0 1 = cc in omega arith)
is_less Greater e = absurd (let z : ◌≡◌ {A = ℕ} 0 1 = cc in omega arith)

module _ (w : ℕ) (body : List ℕ) (n : ℕ) (up : (k : ℕ) → 1 ≤ k → k < n → climbs w body k ≡ true) where
  next : (j : ℕ) → suc j < n → byte_order (stretch w body j) (stretch w body (suc j)) ≡ Less
  next j h =
      let e : suc j - 1 ≡ j = omega arith in
      subst (λ p. byte_order (stretch w body p) (stretch w body (suc j)) ≡ Less) e
      (is_less _ (up (suc j) (omega arith) h))

  below_all : (j i : ℕ) → i < j → j < n → byte_order (stretch w body i) (stretch w body j) ≡ Less
  below_all zero i h l = absurd (omega arith)
  below_all (suc j) i h l =
      elim (cases_lt i j) [
        | inl u ↦ bytes_total.passes (stretch w body i) (stretch w body j) (stretch w body (suc j)) (below_all j i u (omega arith)) (next j l)
        | inr u ↦ (let e : j ≡ i = omega arith in subst (λ p. byte_order (stretch w body p) (stretch w body (suc j)) ≡ Less) e (next j l))
      ]

  pub rising : Rising w body n
  rising i j = below_all j i
