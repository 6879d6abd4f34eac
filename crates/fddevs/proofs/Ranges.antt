-- What `all` and `find` give over the numbers below n, and `position` of a list.
use Rattle.std.proofs.Common.{◌≡◌, ℕ, ◌<◌, ◌≤◌, Bool, true, false, List, length, get_or, Some, None, Option, sym, refl, ◌∙◌, subst, arith}
use denote.Param.Members.{Mut}
use Rattle.std.specs.declared.ops.Range.{Range}
use Rattle.std.specs.Fn.{Called}
use Rattle.std.specs.Iterator.{YieldsThen}
use Rattle.std.specs.List.{FoldsTo, All, AllWithin, HoldsAt, list_all, range_with_len}
use Rattle.std.specs.Option.{MatchOption}
use Rattle.std.proofs.iter.Yields.{nat_range_steps}
use Rattle.std.proofs.lemmas.Bool.Decides.{same_from_decides, Decides-by_and, Decides-like}
use Rattle.std.proofs.lemmas.Iterator.{YieldsList-from_range}
use Rattle.std.proofs.lemmas.Iterator.Search.{all_from_yields_List}
use Rattle.std.proofs.lemmas.List.FromFn.{length-range_with_len, get_or-range_with_len}
use Rattle.fddevs.specs.Vetting.{all_below, seek}
use Rattle.fddevs.proofs.Vetting.{below_true, true_below, first_some, first_none}

module _ (t : ℕ → Bool) (n : ℕ) where
  abbrev numbers : List ℕ
  numbers = range_with_len 0 n

  nth : (k d : ℕ) → k < n → get_or numbers k d ≡ k
  nth k d l = omega (arith, get_or-range_with_len 0 n k d l)

  each : All (λ k. t k ≡ true) numbers → (k : ℕ) → k < n → t k ≡ true
  each h k l =
      subst (λ j. t j ≡ true) (nth k 0 l) (h k 0 (omega (arith, length-range_with_len 0 n)))

  listed : ((k : ℕ) → k < n → t k ≡ true) → All (λ k. t k ≡ true) numbers
  listed h k d l =
      let m : k < n = omega (arith, length-range_with_len 0 n) in
      subst (λ j. t j ≡ true) (sym (nth k d m)) (h k m)

  pub all_in_range : list_all t numbers ≡ all_below t n
  all_in_range =
      same_from_decides _ _
      (Decides-like _ each listed
      (Decides-by_and t (λ k. t k ≡ true) (list_all t) (λ _. (λ e. e, λ e. e)) refl (λ _ _. refl) numbers))
      (true_below t n, below_true t n)

  pub all_of_range : {F : Type 0} {g : Mut F (ℕ × Unit {0}) Bool} {s : Range ℕ} (u : Range ℕ) (f : F) (r : Bool) →
      s ≡ record { start = 0; end = n } →
      (xs : List ℕ) × (o : Option ℕ) × (j : F) × YieldsThen nat_range_steps s xs o u
      × FoldsTo (λ p x q. Called g p (x, tt) true q) f xs j
      × MatchOption o (r ≡ true) (λ x. (r ≡ false) × ((h : F) × Called g j (x, tt) false h)) →
      ((x : ℕ) (b : Bool) (q : F) → Called g f (x, tt) b q → (q ≡ f) × (b ≡ t x)) → r ≡ all_below t n
  all_of_range u f r e ran calls =
      all_from_yields_List t u f r ran (YieldsList-from_range 0 n n e (omega arith)) calls ∙ all_in_range

  pub first_is : (r : Option ℕ) →
      MatchOption r ((k : ℕ) → 0 ≤ k → k < n → t k ≡ true)
      (λ i. (0 ≤ i) × (i < n) × (t i ≡ false) × ((k : ℕ) → 0 ≤ k → k < i → t k ≡ true)) →
      r ≡ seek t 0 n
  first_is None h = sym (first_none t n (λ j l. h j (omega arith) l))
  first_is (Some i) h = sym (first_some t n i h.1 (λ j l. h.3 j (omega arith) l) h.2)

-- what `position` gives of the items that fail a test
module _ {X : Type 0} (test : X → Bool) (d : X) (xs : List X) where
  pub first_item : (r : Option ℕ) →
      MatchOption r (AllWithin (λ x. test x ≡ true) xs 0 (length xs))
      (λ i. (i < length xs) × HoldsAt (λ x. test x ≡ false) xs i × AllWithin (λ x. test x ≡ true) xs 0 i) →
      r ≡ seek (λ k. test (get_or xs k d)) 0 (length xs)
  first_item None h = first_is (λ k. test (get_or xs k d)) (length xs) None (λ k a l. h k d a l)
  first_item (Some i) h =
      first_is (λ k. test (get_or xs k d)) (length xs) (Some i) (omega arith, h.0, h.1 d, λ k a l. h.2 k d a l)
