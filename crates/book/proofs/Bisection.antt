-- A turn of the bisection.
use Rattle.std.proofs.Common.{◌≡◌, ℕ, zero, suc, ◌+◌, ◌-◌, ◌<◌, ◌≤◌, cond, List, length, get_or, Ok, Err, Result, Ordering, sym, refl, ap, ◌∙◌, inl, inr, arith, le-ltb, lt-ltb}
use Rattle.std.proofs.lemmas.List.{get_or_read}
use Rattle.std.proofs.lemmas.Bool.{cases_lt}
use Rattle.std.specs.Ordering.{match_ordering as by_order}
use Rattle.book.specs.Place.{middle, halving}

module _ {K : Type 0} (cmp : K → K → Ordering) (x : K) (xs : List K) where
  -- what a turn does, with further turns
  abbrev turn : ℕ → ℕ → ℕ → Result ℕ ℕ
  turn turns low high =
      by_order (cmp (get_or xs (middle low high) x) x) (halving cmp x xs turns (middle low high + 1) high)
      (Ok (middle low high)) (halving cmp x xs turns low (middle low high))

  pub halves : (turns low high : ℕ) → low < high → halving cmp x xs (suc turns) low high ≡ turn turns low high
  halves turns low high h = ap (λ b. cond b (turn turns low high) (Err low)) (lt-ltb low high h)

  pub met : (turns low high : ℕ) → high ≤ low → halving cmp x xs turns low high ≡ Err low
  met zero low high h = refl
  met (suc turns) low high h = ap (λ b. cond b (turn turns low high) (Err low)) (le-ltb low high h)

  -- turns beyond the number of entries change nothing
  enough : (s t low high : ℕ) → high - low ≤ s → high - low ≤ t →
      halving cmp x xs s low high ≡ halving cmp x xs t low high
  enough zero t low high h k = sym (met t low high (omega arith))
  enough (suc s) zero low high h k = met (suc s) low high (omega arith)
  enough (suc s) (suc t) low high h k =
      elim (cases_lt low high) [
        | inl l ↦
            halves s low high l
            ∙ (λ i. by_order (cmp (get_or xs (middle low high) x) x)
            (enough s t (middle low high + 1) high (omega arith) (omega arith) i)
            (Ok (middle low high))
            (enough s t low (middle low high) (omega arith) (omega arith) i))
            ∙ sym (halves t low high l)
        | inr l ↦ met (suc s) low high l ∙ sym (met (suc t) low high l)
      ]

  -- a turn, by the answer o of the comparison with the entry v in the middle
  pub one_turn : (s low high : ℕ) (v : K) (o : Ordering) → low < high → high ≤ length xs → high - low ≤ s →
      v ≡ get_or xs (middle low high) v → o ≡ cmp v x →
      halving cmp x xs s low high
      ≡ by_order o (halving cmp x xs s (middle low high + 1) high) (Ok (middle low high))
      (halving cmp x xs s low (middle low high))
  one_turn zero low high v o l w h e q = absurd (omega arith)
  one_turn (suc s) low high v o l w h e q =
      let r : cmp (get_or xs (middle low high) x) x ≡ o =
      ap (λ y. cmp y x) (sym (get_or_read xs (middle low high) v (omega arith) e x)) ∙ sym q in
      halves s low high l
      ∙ (λ i. by_order (r i) (enough s (suc s) (middle low high + 1) high (omega arith) (omega arith) i)
      (Ok (middle low high)) (enough s (suc s) low (middle low high) (omega arith) (omega arith) i))
