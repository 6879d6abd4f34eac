-- Putting a record into a list that is kept: what is answered and left, that the list is kept again, and that it is right.
use Rattle.std.proofs.Common.{◌≡◌, ℕ, ◌+◌, ◌-◌, ◌<◌, ◌≤◌, min, Bool, ltb, ◌⊎◌, List, ◌++◌, length, get_or, take, drop, Ok, Err, Result, Ordering, Less, Equal, sym, refl, ap, ◌∙◌, subst, inl, inr, arith, length-append, le-ltb, lt-ltb}
use Rattle.std.specs.List.{insert, ContainsAt as Has}
use Rattle.std.proofs.lemmas.List.{get_or-take, length-take-le, get_or_append_left, take_at, drop_at}
use Rattle.std.proofs.lemmas.List.Edits.{length-insert, get_or-insert_below, get_or-insert_at, get_or-insert_above}
use Rattle.std.proofs.lemmas.Bool.{cases_lt, cases_order}
use Rattle.fddevs.specs.declared.refusal.Refusal.TheVariants.{NoRoom}
use Rattle.book.specs.declared.keeping.Put.TheVariants.{Added, Present}
use Rattle.book.specs.Order.{TotalOrder, Ascending, Kept}
use Rattle.book.specs.Place.{place}
use Rattle.book.specs.Putting.{Answer, answer_at, list_at, answer, list_after, count_after, Puts, PutsRight}
use Rattle.std.specs.Cmp.{IsTotalOrder}
use Rattle.book.proofs.Places.{below, clash, Stands, Belongs, Found, found}

-- what a list has after an insertion
module _ {K : Type 0} (zs : List K) (i : ℕ) (x : K) (l : i ≤ length zs) where
  long : length (insert zs i x) ≡ length zs + 1
  long = length-insert zs i x l

  high : (k : ℕ) (d : K) → i < k → get_or (insert zs i x) k d ≡ get_or zs (k - 1) d
  high k d h =
      let e : k ≡ k - 1 + 1 = omega arith in
      ap (λ j. get_or (insert zs i x) j d) e ∙ get_or-insert_above zs i x d (k - 1) (omega arith) l

  here : (k : ℕ) (d : K) → k ≡ i → get_or (insert zs i x) k d ≡ x
  here k d e = ap (λ j. get_or (insert zs i x) j d) e ∙ get_or-insert_at zs i x d l

  low : (k : ℕ) (d : K) → k < i → get_or (insert zs i x) k d ≡ get_or zs k d
  low k d h = get_or-insert_below zs i x d k h l

  had : (y : K) → Has (insert zs i x) y → Has zs y ⊎ (y ≡ x)
  had y (k, u, h) =
      let n = long in
      elim (cases_order k i) [
        | inl e ↦ inr (sym (h y) ∙ here k y e)
        | inr (inl b) ↦ inl (k, omega arith, λ d. sym (low k d b) ∙ h d)
        | inr (inr b) ↦ inl (k - 1, omega arith, λ d. sym (high k d b) ∙ h d)
      ]

  has : (y : K) → Has zs y ⊎ (y ≡ x) → Has (insert zs i x) y
  has y (inl (k, u, h)) =
      let n = long in
      elim (cases_lt k i) [
        | inl b ↦ (k, omega arith, λ d. low k d b ∙ h d)
        | inr b ↦ (k + 1, omega arith, λ d. get_or-insert_above zs i x d k b l ∙ h d)
      ]
  has y (inr e) = let n = long in (i, omega arith, λ d. here i d refl ∙ sym e)

  module _ (cmp : K → K → Ordering) (up : Ascending cmp zs (length zs)) (lower : (k : ℕ) (d : K) → k < i → cmp (get_or zs k d) x ≡ Less)
      (higher : (k : ℕ) (d : K) → i ≤ k → k < length zs → cmp x (get_or zs k d) ≡ Less) where
    both : (y y' z z' : K) → y ≡ y' → z ≡ z' → cmp y' z' ≡ Less → cmp y z ≡ Less
    both y y' z z' p q h = (λ j. cmp (p j) (q j)) ∙ h

    rises : Ascending cmp (insert zs i x) (length zs + 1)
    rises p q d h u =
        elim (cases_order q i) [
          | inl e ↦ both _ _ _ _ (low p d (omega arith)) (here q d e) (lower p d (omega arith))
          | inr (inl b) ↦ both _ _ _ _ (low p d (omega arith)) (low q d b) (up p q d h (omega arith))
          | inr (inr b) ↦ elim (cases_order p i) [
            | inl e ↦ both _ _ _ _ (here p d e) (high q d b) (higher (q - 1) d (omega arith) (omega arith))
            | inr (inl f) ↦ both _ _ _ _ (low p d f) (high q d b) (up p (q - 1) d (omega arith) (omega arith))
            | inr (inr f) ↦ both _ _ _ _ (high p d f) (high q d b) (up (p - 1) (q - 1) d (omega arith) (omega arith))
          ]
        ]

module _ {K : Type 0} {cmp : K → K → Ordering} (total : IsTotalOrder cmp) (x : K) (xs : List K) (n : ℕ) (kept : Kept cmp xs n) where
  front_length : length (take n xs) ≡ n
  front_length = length-take-le n xs kept.within

  module _ (i : ℕ) (b : Belongs cmp x xs n i) (free : n < length xs) where
    abbrev front : List K
    front = insert (take n xs) i x

    abbrev whole : List K
    whole = insert (take n xs) i x ++ drop (n + 1) xs

    inside : i ≤ length (take n xs)
    inside = let m = front_length in omega (arith, b.within)

    longer : length front ≡ n + 1
    longer = long (take n xs) i x inside ∙ ap (λ k. k + 1) front_length

    front_is : take (n + 1) whole ≡ front
    front_is = take_at front (drop (n + 1) xs) (n + 1) longer

    at_front : (k : ℕ) (d : K) → k < n → get_or (take n xs) k d ≡ get_or xs k d
    at_front k d h = get_or-take n xs k d h

    front_up : Ascending cmp front (n + 1)
    front_up =
        let m = front_length in
        subst (λ k. Ascending cmp front (k + 1)) m
        (rises (take n xs) i x inside cmp
        (λ p q d h u. (λ j. cmp (at_front p d (omega arith) j) (at_front q d (omega arith) j)) ∙ kept.ascending p q d h (omega arith))
        (λ k d h. ap (λ y. cmp y x) (at_front k d (omega (arith, b.within))) ∙ b.between.lower k d h)
        (λ k d h u. ap (cmp x) (at_front k d (omega arith)) ∙ below total (get_or xs k d) x (b.between.higher k d h (omega arith))))

    kept_whole : Kept cmp whole (n + 1)
    kept_whole = record {
      within = let m = longer in omega (arith, length-append front (drop (n + 1) xs));
      ascending = λ p q d h u.
          let m = longer in
          (λ j. cmp (get_or_append_left front (drop (n + 1) xs) d p (omega arith) j) (get_or_append_left front (drop (n + 1) xs) d q (omega arith) j))
          ∙ front_up p q d h u;
    }

  -- a record was added where it belongs
  pub kept_added : (i : ℕ) (ys : List K) → Err i ≡ place cmp x xs n → n < length xs →
      ys ≡ insert (take n xs) i x ++ drop (n + 1) xs → Kept cmp ys (n + 1)
  kept_added i ys e free is =
      subst (λ zs. Kept cmp zs (n + 1)) (sym is) (kept_whole i (subst (Found total x xs n kept) (sym e) (found total x xs n kept)) free)

-- a total order, in the library's words
pub in_std : {K : Type 0} {cmp : K → K → Ordering} → TotalOrder cmp → IsTotalOrder cmp
in_std {K} {cmp} total = record {
  antisymm = total.turned;
  trans = total.passes;
  congr = λ x y z e. ap (λ w. cmp w z) (total.same x y e);
}

module _ {K : Type 0} {cmp : K → K → Ordering} (total : TotalOrder cmp) (x : K) (xs : List K) (n : ℕ) (kept : Kept cmp xs n) where
  abbrev order : IsTotalOrder cmp
  order = in_std total

  stands : (i : ℕ) → Stands cmp x xs n i → Has (take n xs) x
  stands i s =
      let m = front_length order x xs n kept in
      (i, omega (arith, s.within), λ d. get_or-take n xs i d s.within ∙ total.same _ _ (s.here d))

  -- a record that belongs somewhere is not there yet
  new : (i : ℕ) → Belongs cmp x xs n i → Has (take n xs) x → ⊥
  new i b (k, u, h) =
      let m = front_length order x xs n kept in
      let e : cmp (get_or xs k x) x ≡ Equal = ap (λ y. cmp y x) (sym (get_or-take n xs k x (omega arith)) ∙ h x) ∙ total.itself x in
      elim (cases_lt k i) [
        | inl l ↦ omega (arith, clash e (b.between.lower k x l))
        | inr l ↦ omega (arith, clash e (b.between.higher k x l (omega arith)))
      ]

  right_present : (i : ℕ) → Stands cmp x xs n i → PutsRight cmp x xs n (Ok Present) xs n
  right_present i s = record {
    present = (λ _. stands i s, λ _. refl);
    refused = (λ e. absurd (let z : ◌≡◌ {A = ℕ} 0 1 = cc in omega arith), λ h. absurd (h.0 (stands i s)));
    records = λ y. (inl, λ h. elim h [ inl k ↦ k | inr k ↦ absurd (let e = k.0 in let z : ◌≡◌ {A = ℕ} 0 1 = cc in omega arith) ]);
    kept = kept;
    beyond = refl;
  }

  right_refused : (i : ℕ) → Belongs cmp x xs n i → n ≡ length xs → PutsRight cmp x xs n (Err NoRoom) xs n
  right_refused i b w = record {
    present = (λ e. absurd (let z : ◌≡◌ {A = ℕ} 0 1 = cc in omega arith), λ h. absurd (new i b h));
    refused = (λ _. (new i b, w), λ _. refl);
    records = λ y. (inl, λ h. elim h [ inl k ↦ k | inr k ↦ absurd (let e = k.0 in let z : ◌≡◌ {A = ℕ} 0 1 = cc in omega arith) ]);
    kept = kept;
    beyond = refl;
  }

  module _ (i : ℕ) (b : Belongs cmp x xs n i) (free : n < length xs) where
    abbrev added : List K
    added = whole order x xs n kept i b free

    is_front : take (n + 1) added ≡ front order x xs n kept i b free
    is_front = front_is order x xs n kept i b free

    room : i ≤ length (take n xs)
    room = inside order x xs n kept i b free

    right_added : PutsRight cmp x xs n (Ok Added) added (n + 1)
    right_added = record {
      present = (λ e. absurd (let z : ◌≡◌ {A = ℕ} 0 1 = cc in omega arith), λ h. absurd (new i b h));
      refused = (λ e. absurd (let z : ◌≡◌ {A = ℕ} 0 1 = cc in omega arith), λ h. absurd (omega (arith, h.1)));
      records = λ y. (
        λ h. elim (had (take n xs) i x room y (subst (λ zs. Has zs y) is_front h)) [ inl k ↦ inl k | inr e ↦ inr (refl, e) ],
        λ h. subst (λ zs. Has zs y) (sym is_front) (has (take n xs) i x room y (elim h [ inl k ↦ inl k | inr k ↦ inr k.1 ])),
      );
      kept = kept_whole order x xs n kept i b free;
      beyond = drop_at (front order x xs n kept i b free) (drop (n + 1) xs) (n + 1) (longer order x xs n kept i b free);
    }

  abbrev Right : Result ℕ ℕ → Bool → Type 0
  Right p free = PutsRight cmp x xs n (answer_at p free) (list_at x xs n p free) (count_after (answer_at p free) n)

  by_place : (p : Result ℕ ℕ) → Found order x xs n kept p → Right p (ltb n (length xs))
  by_place (Ok i) s = right_present i s
  by_place (Err i) b =
      elim (cases_lt n (length xs)) [
        | inl l ↦ subst (Right (Err i)) (sym (lt-ltb n (length xs) l)) (right_added i b l)
        | inr l ↦ subst (Right (Err i)) (sym (le-ltb n (length xs) l)) (right_refused i b (omega (arith, kept.within)))
      ]

  -- by the place that was found, and whether an entry is free
  pub right_at : (p : Result ℕ ℕ) → p ≡ place cmp x xs n → (free : Bool) → ltb n (length xs) ≡ free → Right p free
  right_at p e free f = subst (Right p) f (by_place p (subst (Found order x xs n kept) (sym e) (found order x xs n kept)))

  defined_right : PutsRight cmp x xs n (answer cmp x xs n) (list_after cmp x xs n) (count_after (answer cmp x xs n) n)
  defined_right =
      let e : n ≡ min n (length xs) = omega (arith, kept.within) in
      subst (λ m. Right (place cmp x xs m) (ltb n (length xs))) e (by_place (place cmp x xs n) (found order x xs n kept))

  pub puts_right : (r : Answer) (ys : List K) (m : ℕ) → Puts cmp x xs n r ys m → PutsRight cmp x xs n r ys m
  puts_right r ys m p =
      subst (λ k. PutsRight cmp x xs n r ys k) (sym p.counted)
      (subst (λ zs. PutsRight cmp x xs n r zs (count_after r n)) (sym p.listed)
      (subst (λ a. PutsRight cmp x xs n a (list_after cmp x xs n) (count_after a n)) (sym p.answered) defined_right))
