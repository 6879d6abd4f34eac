-- Ascending wires: each comes before every later one, and those with one start stand side by side.
use Rattle.std.proofs.Common.{◌≡◌, ℕ, zero, suc, ◌-◌, ◌<◌, ◌≤◌, Bool, true, not, ◌&&◌, ◌||◌, eqb, ltb, List, [], ◌∷◌, length, sym, refl, ap, ◌∙◌, ⊎_elim, sub-one, arith}
use Rattle.std.proofs.lemmas.Bool.{cases_lt, cases_Bool, both_ways, false≢true}
use Rattle.std.proofs.lemmas.Bool.Decides.{nat_tests}
use Rattle.fddevs.specs.declared.scheme.Wire.{Wire}
use Rattle.fddevs.proofs.Vetting.{below_true, below_false}
use Rattle.wiring.specs.Wires.{bytes, before, nth, ascends, same_start, is_apart}
use Rattle.wiring.proofs.Orders.{next_after}

before_step : (x y z : ℕ) (p q r : Bool) → (p ≡ true → q ≡ true → r ≡ true) → ltb x y || (eqb x y && p) ≡ true →
    ltb y z || (eqb y z && q) ≡ true → ltb x z || (eqb x z && r) ≡ true
before_step x y z p q r h a b = grind (arith, nat_tests)

before_trans : (xs ys zs : List ℕ) → before xs ys ≡ true → before ys zs ≡ true → before xs zs ≡ true
before_trans [] ys zs a b = a
before_trans (x ∷ xs) [] zs a b = absurd (false≢true a)
before_trans (x ∷ xs) (y ∷ ys) [] a b = b
before_trans (x ∷ xs) (y ∷ ys) (z ∷ zs) a b = before_step x y z _ _ _ (before_trans xs ys zs) a b

-- what lies between two wires with one start has it too
squeezed : (u v w : Wire) → before (bytes u) (bytes v) ≡ true → before (bytes v) (bytes w) ≡ true →
    same_start u w ≡ true → same_start v w ≡ true
squeezed u v w a b e = grind (arith, nat_tests)

module _ (ws : List Wire) (up : ascends ws ≡ true) where
  pub later : (k j : ℕ) → j < k → k < length ws → before (bytes (nth ws j)) (bytes (nth ws k)) ≡ true
  later zero j h l = absurd (omega arith)
  later (suc k) j h l =
      ⊎_elim
      (λ m. before_trans (bytes (nth ws j)) (bytes (nth ws k)) (bytes (nth ws (suc k))) (later k j m (omega arith)) (next_after ws up k l))
      (λ g. let e : j ≡ k = omega arith in rw e (next_after ws up k l)) (cases_lt j k)

  repeated : (k j : ℕ) → j ≤ k → suc k < length ws → same_start (nth ws j) (nth ws (suc k)) ≡ true →
      same_start (nth ws k) (nth ws (suc k)) ≡ true
  repeated k j h l e =
      ⊎_elim
      (λ m.
      squeezed (nth ws j) (nth ws k) (nth ws (suc k)) (later k j m (omega arith)) (next_after ws up k l) e)
      (λ g. let z : j ≡ k = omega arith in rw z at e) (cases_lt j k)

  next_apart : (k : ℕ) → suc k < length ws → not (same_start (nth ws k) (nth ws (suc k))) ≡ is_apart ws (suc k)
  next_apart k l =
      let t : ℕ → Bool = λ j. not (same_start (nth ws j) (nth ws (suc k))) in
      ⊎_elim
      (λ y. ap not y ∙ sym (below_false t (suc k) k (omega arith) (ap not y)))
      (λ y.
      ap not y
      ∙ sym
      (below_true t (suc k)
      (λ j h.
      ⊎_elim (λ e. absurd (both_ways _ y (repeated k j (omega arith) l e))) (λ e. ap not e)
      (cases_Bool (same_start (nth ws j) (nth ws (suc k)))))))
      (cases_Bool (same_start (nth ws k) (nth ws (suc k))))

  pub beside : (k : ℕ) → (k ≡ 0 → ⊥) → k < length ws →
      not (same_start (nth ws (k - 1)) (nth ws k)) ≡ is_apart ws k
  beside zero n h = absurd (n refl)
  beside (suc k) n h = rw sub-one (next_apart k h)
