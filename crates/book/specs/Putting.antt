-- What putting a record into a book gives. Assumes nothing.
use Rattle.std.specs.Prelude.{◌≡◌, ℕ, ◌+◌, min, Bool, cond, ◌⊎◌, ◌↔◌, List, ◌++◌, length, take, drop, Ok, Err, Result, nat_lt}
use Rattle.std.specs.declared.cmp.Ordering.{Ordering}
use Rattle.std.specs.List.{insert, ContainsAt as Has}
use Rattle.fddevs.specs.declared.refusal.Refusal.{Refusal}
use Rattle.fddevs.specs.declared.refusal.Refusal.TheVariants.{NoRoom}
use Rattle.book.specs.declared.keeping.Put.{Put}
use Rattle.book.specs.declared.keeping.Put.TheVariants.{Added, Present}
use Rattle.book.specs.Order.{Kept}
use Rattle.book.specs.Place.{place}

abbrev pub Answer : Type 0
Answer = Result Put Refusal

-- by the place that was found, and whether an entry is free
abbrev pub answer_at : Result ℕ ℕ → Bool → Answer
answer_at (Ok at) free = Ok Present
answer_at (Err at) free = cond free (Ok Added) (Err NoRoom)

abbrev pub list_at : {K : Type 0} → K → List K → ℕ → Result ℕ ℕ → Bool → List K
list_at x xs n (Ok at) free = xs
list_at x xs n (Err at) free = cond free (insert (take n xs) at x ++ drop (n + 1) xs) xs

-- x is put into a list of n records: the answer, and the list and the count that are left
abbrev pub answer : {K : Type 0} → (K → K → Ordering) → K → List K → ℕ → Answer
answer cmp x xs n = answer_at (place cmp x xs (min n (length xs))) (nat_lt n (length xs))

abbrev pub list_after : {K : Type 0} → (K → K → Ordering) → K → List K → ℕ → List K
list_after cmp x xs n = list_at x xs n (place cmp x xs (min n (length xs))) (nat_lt n (length xs))

abbrev pub count_after : Answer → ℕ → ℕ
count_after (Ok Added) n = n + 1
count_after (Ok Present) n = n
count_after (Err e) n = n

-- The answer r, the list ys and the count m are those of x put into the list xs of n records.
pub record Puts {K : Type 0} (cmp : K → K → Ordering) (x : K) (xs : List K) (n : ℕ) (r : Answer) (ys : List K) (m : ℕ) : Type 0 where
  pub answered : r ≡ answer cmp x xs n
  pub listed : ys ≡ list_after cmp x xs n
  pub counted : m ≡ count_after r n

-- What they are to be where the records ascend. The record is present exactly where it is one of them, and refused
-- exactly where it is not and no entry is free. The records then are those that were and, where it was added, the
-- new one; they ascend, and the entries beyond them stay.
pub record PutsRight {K : Type 0} (cmp : K → K → Ordering) (x : K) (xs : List K) (n : ℕ) (r : Answer) (ys : List K) (m : ℕ) : Type 0 where
  pub present : (r ≡ Ok Present) ↔ Has (take n xs) x
  pub refused : (r ≡ Err NoRoom) ↔ ((Has (take n xs) x → ⊥) × (n ≡ length xs))
  pub records : (y : K) → Has (take m ys) y ↔ (Has (take n xs) y ⊎ ((r ≡ Ok Added) × (y ≡ x)))
  pub kept : Kept cmp ys m
  pub beyond : drop m ys ≡ drop m xs
