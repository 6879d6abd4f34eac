-- Among records that ascend, bisection finds where a record stands or belongs.
use Rattle.std.proofs.Common.{◌≡◌, ℕ, zero, suc, ◌+◌, ◌-◌, ◌<◌, ◌≤◌, List, get_or, Ok, Err, Result, Ordering, Less, Equal, Greater, sym, refl, ap, ◌∙◌, subst, inl, inr, arith}
use Rattle.std.proofs.lemmas.List.{get_or_default}
use Rattle.std.proofs.lemmas.Bool.{cases_lt}
use Rattle.std.specs.Cmp.{IsTotalOrder}
use Rattle.std.specs.Ordering.{ordering_index, ordering_reverse, match_ordering as by_order}
use Rattle.book.specs.Order.{Kept}
use Rattle.book.specs.Place.{middle, halving, place}
use Rattle.book.proofs.Bisection.{halves, met}

pub above : {K : Type 0} {cmp : K → K → Ordering} → IsTotalOrder cmp → (y z : K) → cmp y z ≡ Less → cmp z y ≡ Greater
above total y z h = total.antisymm z y ∙ ap ordering_reverse h

pub below : {K : Type 0} {cmp : K → K → Ordering} → IsTotalOrder cmp → (y z : K) → cmp y z ≡ Greater → cmp z y ≡ Less
below total y z h = total.antisymm z y ∙ ap ordering_reverse h

-- two answers of one comparison
pub clash : {o p q : Ordering} → o ≡ p → o ≡ q → ordering_index p ≡ ordering_index q
clash e f = ap ordering_index (sym e ∙ f)

-- the entries before low are below x, and those from high up to n above it
pub record Between {K : Type 0} (cmp : K → K → Ordering) (x : K) (xs : List K) (n low high : ℕ) : Type 0 where
  pub lower : (k : ℕ) (d : K) → k < low → cmp (get_or xs k d) x ≡ Less
  pub higher : (k : ℕ) (d : K) → high ≤ k → k < n → cmp (get_or xs k d) x ≡ Greater

pub record Stands {K : Type 0} (cmp : K → K → Ordering) (x : K) (xs : List K) (n i : ℕ) : Type 0 where
  pub within : i < n
  pub here : (d : K) → cmp (get_or xs i d) x ≡ Equal

pub record Belongs {K : Type 0} (cmp : K → K → Ordering) (x : K) (xs : List K) (n i : ℕ) : Type 0 where
  pub within : i ≤ n
  pub between : Between cmp x xs n i i

module _ {K : Type 0} {cmp : K → K → Ordering} (total : IsTotalOrder cmp) (x : K) (xs : List K) (n : ℕ) (kept : Kept cmp xs n) where
  abbrev pub Found : Result ℕ ℕ → Type 0
  Found (Ok i) = Stands cmp x xs n i
  Found (Err i) = Belongs cmp x xs n i

  at_any : (k : ℕ) (o : Ordering) → k < n → cmp (get_or xs k x) x ≡ o → (d : K) → cmp (get_or xs k d) x ≡ o
  at_any k o h e d = ap (λ y. cmp y x) (get_or_default xs k d x (omega (arith, kept.within))) ∙ e

  module _ (low high mid : ℕ) (b : Between cmp x xs n low high) (m : mid < n) where
    if_less : ((d : K) → cmp (get_or xs mid d) x ≡ Less) → Between cmp x xs n (mid + 1) high
    if_less h = record {
      lower = λ k d l. elim (cases_lt k mid) [
        | inl u ↦ total.trans (get_or xs k d) (get_or xs mid d) x (kept.ascending k mid d u m) (h d)
        | inr u ↦ (let e : mid ≡ k = omega arith in subst (λ i. cmp (get_or xs i d) x ≡ Less) e (h d))
      ];
      higher = b.higher;
    }

    if_greater : ((d : K) → cmp (get_or xs mid d) x ≡ Greater) → Between cmp x xs n low mid
    if_greater h = record {
      lower = b.lower;
      higher = λ k d l u. elim (cases_lt mid k) [
        | inl v ↦ above total x (get_or xs k d)
            (total.trans x (get_or xs mid d) (get_or xs k d) (below total (get_or xs mid d) x (h d)) (kept.ascending mid k d v u))
        | inr v ↦ (let e : mid ≡ k = omega arith in subst (λ i. cmp (get_or xs i d) x ≡ Greater) e (h d))
      ];
    }

  ended : (low high : ℕ) → low ≤ high → high ≤ low → high ≤ n → Between cmp x xs n low high → Belongs cmp x xs n low
  ended low high l h w b =
      record { within = omega arith; between = record { lower = b.lower; higher = λ k d v u. b.higher k d (omega arith) u } }

  -- by the answer in the middle, where the halves are found right
  by_middle : (low high mid : ℕ) (o : Ordering) (r s : Result ℕ ℕ) → mid < n → cmp (get_or xs mid x) x ≡ o →
      Between cmp x xs n low high → (Between cmp x xs n (mid + 1) high → Found r) → (Between cmp x xs n low mid → Found s) →
      Found (by_order o r (Ok mid) s)
  by_middle low high mid Less r s m e b f g = f (if_less low high mid b m (at_any mid Less m e))
  by_middle low high mid Equal r s m e b f g = record { within = m; here = at_any mid Equal m e }
  by_middle low high mid Greater r s m e b f g = g (if_greater low high mid b m (at_any mid Greater m e))

  finds : (turns low high : ℕ) → low ≤ high → high ≤ n → high - low ≤ turns → Between cmp x xs n low high →
      Found (halving cmp x xs turns low high)
  finds zero low high l w h b = ended low high l (omega arith) w b
  finds (suc turns) low high l w h b =
      elim (cases_lt low high) [
        | inl u ↦
            subst Found (sym (halves cmp x xs turns low high u))
            (by_middle low high (middle low high) (cmp (get_or xs (middle low high) x) x) _ _ (omega arith) refl b
            (finds turns (middle low high + 1) high (omega arith) w (omega arith))
            (finds turns low (middle low high) (omega arith) (omega arith) (omega arith)))
        | inr u ↦ subst Found (sym (met cmp x xs (suc turns) low high u)) (ended low high l u w b)
      ]

  pub found : Found (place cmp x xs n)
  found =
      finds n 0 n (omega arith) (omega arith) (omega arith)
      record { lower = λ k d h. absurd (omega arith); higher = λ k d h u. absurd (omega arith) }
