-- Pieces of equal length, one behind the other: how long they are together, and where each stands.
use Rattle.std.proofs.Common.{◌≡◌, ℕ, zero, suc, ◌+◌, ◌*◌, ◌<◌, List, [], ◌∷◌, ◌++◌, length, get_or, take, drop, sym, ap, ◌∙◌, suc-mul, add-mul, zero-mul, arith, length-append, take-add}
use Rattle.std.specs.List.{range_with_len, flat_map, AllByRecursion}
use Rattle.std.proofs.lemmas.List.{take_at, drop_at, drop-drop}
use Rattle.set_file.specs.Layout.{stretch}

module _ {X : Type 0} (w : ℕ) (f : X → List ℕ) where
  pub joined_length : (xs : List X) → AllByRecursion (λ x. length (f x) ≡ w) xs → length (flat_map f xs) ≡ length xs * w
  joined_length [] h = sym (zero-mul w)
  joined_length (x ∷ xs) h =
      length-append (f x) (flat_map f xs) ∙ omega (arith, h.0, joined_length xs h.1, suc-mul (length xs) w)

  pub joined_stretch : (xs : List X) → AllByRecursion (λ x. length (f x) ≡ w) xs → (k : ℕ) (d : X) → k < length xs →
      stretch w (flat_map f xs) k ≡ f (get_or xs k d)
  joined_stretch [] h k d l = absurd (omega arith)
  joined_stretch (x ∷ xs) h zero d l =
      ap (λ j. take w (drop j (f x ++ flat_map f xs))) (zero-mul w) ∙ take_at (f x) (flat_map f xs) w h.0
  joined_stretch (x ∷ xs) h (suc k) d l =
      ap (λ j. take w (drop j (f x ++ flat_map f xs))) (suc-mul k w ∙ omega arith)
      ∙ ap (take w) (sym (drop-drop (k * w) w (f x ++ flat_map f xs)) ∙ ap (drop (k * w)) (drop_at (f x) (flat_map f xs) w h.0))
      ∙ joined_stretch xs h.1 k d (omega arith)

-- a list is its stretches
module _ (w : ℕ) (body : List ℕ) where
  pub stretches : (a c : ℕ) → flat_map (stretch w body) (range_with_len a c) ≡ take (c * w) (drop (a * w) body)
  stretches a zero = ap (λ n. take n (drop (a * w) body)) (sym (zero-mul w))
  stretches a (suc c) =
      let more : a * w + w ≡ (a + 1) * w = omega (arith, add-mul a 1 w) in
      ap (λ xs. stretch w body a ++ xs)
      (stretches (a + 1) c ∙ ap (λ n. take (c * w) (drop n body)) (sym more) ∙ ap (take (c * w)) (sym (drop-drop w (a * w) body)))
      ∙ sym (take-add w (c * w) (drop (a * w) body))
      ∙ ap (λ n. take n (drop (a * w) body)) (omega (arith, suc-mul c w))
