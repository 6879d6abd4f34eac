-- Numbers of equally many digits are ordered as their digits are.
use Rattle.std.proofs.Common.{◌≡◌, ℕ, zero, suc, replicate, length-append, length-drop, ◌+◌, ◌*◌, ◌<◌, List, [], ◌∷◌, ◌++◌, length, get_or, take, drop, Ordering, Less, Equal, Greater, sym, refl, ap, ◌∙◌, inl, inr, arith, length-take, take_all}
use Rattle.std.specs.Ordering.{nat_cmp, ordering_then, MatchOrdering}
use Rattle.std.specs.Cmp.{nat_cmp_is}
use Rattle.std.specs.Int.Digits.{number_from_digits, number_from_digits_after, AllBelowBase}
use Rattle.std.proofs.lemmas.Int.Digits.{number_more, number_after_append}
use Rattle.std.proofs.lemmas.List.{take-append-drop, append-nil, nil_from_length}
use borrow.Rule.Slice.PartMut.{put_mid, post_of}
use Rattle.std.proofs.lemmas.Bool.{cases_lt}
use Rattle.book.specs.Records.{byte_order}
use Rattle.book.specs.Words.{Word}

abbrev rank : ℕ → ℕ → Ordering
rank = nat_cmp

then_assoc : (a b c : Ordering) → ordering_then (ordering_then a b) c ≡ ordering_then a (ordering_then b c)
then_assoc Less b c = refl
then_assoc Equal b c = refl
then_assoc Greater b c = refl

then_equal : (a : Ordering) → a ≡ ordering_then a Equal
then_equal Less = refl
then_equal Equal = refl
then_equal Greater = refl

ranked : (m n : ℕ) (o : Ordering) → MatchOrdering o (m < n) (m ≡ n) (n < m) → rank m n ≡ o
ranked m n o h = sym (nat_cmp_is m n o h)

-- two numbers, by the three ways in which they can stand
three : {G : Type 0} (m n : ℕ) → (m < n → rank m n ≡ Less → G) → (m ≡ n → rank m n ≡ Equal → G) →
    (n < m → rank m n ≡ Greater → G) → G
three m n f g h =
    elim (cases_lt m n) [
      | inl l ↦ f l (ranked m n Less l)
      | inr l ↦ elim (cases_lt n m) [
        | inl k ↦ h k (ranked m n Greater k)
        | inr k ↦ (let e : m ≡ n = omega arith in g e (ranked m n Equal e))
      ]
    ]

-- a digit more
digit : (a c x y : ℕ) → x < 256 → y < 256 → rank (a * 256 + x) (c * 256 + y) ≡ ordering_then (rank a c) (rank x y)
digit a c x y hx hy =
    three a c
    (λ l e. ranked (a * 256 + x) (c * 256 + y) Less (omega arith) ∙ sym (ap (λ o. ordering_then o (rank x y)) e))
    (λ l e. three x y
    (λ k d. ranked (a * 256 + x) (c * 256 + y) Less (omega arith) ∙ sym (ap (λ o. ordering_then o (rank x y)) e ∙ d))
    (λ k d. ranked (a * 256 + x) (c * 256 + y) Equal (omega arith) ∙ sym (ap (λ o. ordering_then o (rank x y)) e ∙ d))
    (λ k d. ranked (a * 256 + x) (c * 256 + y) Greater (omega arith) ∙ sym (ap (λ o. ordering_then o (rank x y)) e ∙ d)))
    (λ l e. ranked (a * 256 + x) (c * 256 + y) Greater (omega arith) ∙ sym (ap (λ o. ordering_then o (rank x y)) e))

number_order : (a c : ℕ) (xs ys : List ℕ) → length xs ≡ length ys → AllBelowBase 256 xs → AllBelowBase 256 ys →
    rank (number_from_digits_after 256 a xs) (number_from_digits_after 256 c ys) ≡ ordering_then (rank a c) (byte_order xs ys)
number_order a c [] [] e u v = then_equal (rank a c)
number_order a c [] (y ∷ ys) e u v = absurd (omega arith)
number_order a c (x ∷ xs) [] e u v = absurd (omega arith)
number_order a c (x ∷ xs) (y ∷ ys) e u v =
    number_order (a * 256 + x) (c * 256 + y) xs ys (omega arith) u.1 v.1
    ∙ ap (λ o. ordering_then o (byte_order xs ys)) (digit a c x y u.0 v.0)
    ∙ then_assoc (rank a c) (rank x y) (byte_order xs ys)

order_append : (xs ys us vs : List ℕ) → length xs ≡ length ys →
    byte_order (xs ++ us) (ys ++ vs) ≡ ordering_then (byte_order xs ys) (byte_order us vs)
order_append [] [] us vs e = refl
order_append [] (y ∷ ys) us vs e = absurd (omega arith)
order_append (x ∷ xs) [] us vs e = absurd (omega arith)
order_append (x ∷ xs) (y ∷ ys) us vs e =
    ap (ordering_then (rank x y)) (order_append xs ys us vs (omega arith))
    ∙ sym (then_assoc (rank x y) (byte_order xs ys) (byte_order us vs))

-- the first n entries of a list, and the others
abbrev Chunk : ℕ → List ℕ → List ℕ → List ℕ → Type 0
Chunk n xs front after = (front ≡ take n xs) × (after ≡ drop n xs) × (length after + n ≡ length xs)

chunk_length : (n : ℕ) (xs front after : List ℕ) → Chunk n xs front after → length front ≡ n
chunk_length n xs front after f = ap length f.0 ∙ simp length-take (omega arith)

chunk_whole : (n : ℕ) (xs front after : List ℕ) → Chunk n xs front after → xs ≡ front ++ after
chunk_whole n xs front after f = sym ((λ i. f.0 i ++ f.1 i) ∙ take-append-drop n xs)

-- what the numbers at the front of two byte strings say of the strings
pub by_fronts : (n : ℕ) (a b x y after-x after-y : List ℕ) (p q : ℕ) (o : Ordering) → Chunk n a x after-x → Chunk n b y after-y →
    Word x p → Word y q → MatchOrdering o (p < q) (p ≡ q) (q < p) → byte_order a b ≡ ordering_then o (byte_order after-x after-y)
by_fronts n a b x y after-x after-y p q o f g w z h =
    let e : length x ≡ length y = chunk_length n a x after-x f ∙ sym (chunk_length n b y after-y g) in
    (λ i. byte_order (chunk_whole n a x after-x f i) (chunk_whole n b y after-y g i))
    ∙ order_append x y after-x after-y e
    ∙ ap (λ r. ordering_then r (byte_order after-x after-y))
    (sym (number_order 0 0 x y e w.small z.small) ∙ (λ i. rank (sym w.value i) (sym z.value i)) ∙ ranked p q o h)

more : (xs : List ℕ) (n : ℕ) → length xs ≡ n →
    (i : ℕ) → i < n → number_from_digits 256 (take (i + 1) xs) ≡ number_from_digits 256 (take i xs) * 256 + get_or xs i 0
more xs n e i h = number_more 256 xs i (omega arith)

-- the number that eight bytes write
pub eight_value : (xs : List ℕ) → length xs ≡ 8 →
    number_from_digits 256 xs ≡ get_or xs 0 0 * 72057594037927936 + get_or xs 1 0 * 281474976710656 + get_or xs 2 0 * 1099511627776 + get_or xs 3 0 * 4294967296 + get_or xs 4 0 * 16777216 + get_or xs 5 0 * 65536 + get_or xs 6 0 * 256 + get_or xs 7 0
eight_value xs e =
    let at = more xs 8 e in
    ap (number_from_digits 256) (sym (take_all 8 xs (omega arith)))
    ∙ omega (arith, at 0 (omega arith), at 1 (omega arith), at 2 (omega arith), at 3 (omega arith), at 4 (omega arith), at 5 (omega arith), at 6 (omega arith), at 7 (omega arith))

-- zeros in front change no number
zeros_first : (a n : ℕ) → number_from_digits_after 256 0 (take {A = ℕ} a (replicate n 0)) ≡ 0
zeros_first zero n = refl
zeros_first (suc a) zero = refl
zeros_first (suc a) (suc n) = zeros_first a n

-- bytes at the end of a word of zeros
module _ (a k : ℕ) (bytes : List ℕ) (e : a + length bytes ≡ 8) (f : k ≡ length bytes) where
  abbrev word : List ℕ
  word = put_mid a k (0 ∷ 0 ∷ 0 ∷ 0 ∷ 0 ∷ 0 ∷ 0 ∷ 0 ∷ []) bytes

  none_behind : post_of {X = ℕ} a k (replicate 8 0) ≡ []
  none_behind = nil_from_length _ (simp length-drop (omega arith))

  word_is : word ≡ take a (replicate 8 0) ++ bytes
  word_is = ap (λ zs. take a (replicate 8 0) ++ (bytes ++ zs)) none_behind ∙ ap (λ zs. take a (replicate 8 0) ++ zs) (append-nil bytes)

  word_length : length word ≡ 8
  word_length = ap length word_is ∙ length-append (take a (replicate 8 0)) bytes ∙ simp length-take (omega arith)

  pub word_value : number_from_digits 256 word ≡ number_from_digits 256 bytes
  word_value =
      ap (number_from_digits 256) word_is
      ∙ number_after_append 256 0 (take a (replicate 8 0)) bytes
      ∙ ap (λ n. number_from_digits_after 256 n bytes) (zeros_first a 8)

  pub word_number : (r : ℕ) → r ≡ get_or word 0 0 * 72057594037927936 + get_or word 1 0 * 281474976710656 + get_or word 2 0 * 1099511627776 + get_or word 3 0 * 4294967296 + get_or word 4 0 * 16777216 + get_or word 5 0 * 65536 + get_or word 6 0 * 256 + get_or word 7 0 →
      r ≡ number_from_digits 256 bytes
  word_number r h = h ∙ sym (eight_value word word_length) ∙ word_value
