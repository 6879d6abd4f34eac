-- Among rows that rise a record is found at one place alone, whatever the hint.
use Rattle.std.proofs.Common.{◌≡◌, ℕ, ◌<◌, List, Some, None, Option, Equal, sym, refl, ap, ◌∙◌, inl, inr, arith}
use Rattle.std.proofs.lemmas.Bool.{cases_order}
use Rattle.book.specs.Records.{byte_order}
use Rattle.book.specs.Orders.{bytes_total}
use Rattle.book.proofs.Places.{clash}
use Rattle.set_file.specs.Layout.{stretch}
use Rattle.lookup.specs.Finding.{Rising, Found}

module _ (w : ℕ) (body : List ℕ) (n : ℕ) (up : Rising w body n) where
  differ : (j k : ℕ) → j < k → k < n → stretch w body j ≡ stretch w body k → ⊥
  differ j k h l e =
      let s = up j k h l in
      let t : byte_order (stretch w body j) (stretch w body k) ≡ Equal = ap (λ y. byte_order y (stretch w body k)) e ∙ bytes_total.itself (stretch w body k) in
      omega (arith, clash s t)

  -- rows that are the same have the same number
  pub one_place : (j k : ℕ) → j < n → k < n → stretch w body j ≡ stretch w body k → j ≡ k
  one_place j k h l e =
      elim (cases_order j k) [
        | inl i ↦ i
        | inr (inl b) ↦ absurd (differ j k b l e)
        | inr (inr b) ↦ absurd (differ k j b h (sym e))
      ]

  -- any two searches for a record answer the same
  pub found_once : (x : List ℕ) (r s : Option ℕ) → Found w body n x r → Found w body n x s → r ≡ s
  found_once x (Some j) (Some k) f g = ap Some (one_place j k f.within g.within (f.same ∙ sym g.same))
  found_once x (Some j) None f g = absurd (g up j f.within f.same)
  found_once x None (Some k) f g = absurd (f up k g.within g.same)
  found_once x None None f g = refl
