-- A record written where the entries from its place on were moved up.
use Rattle.std.proofs.Common.{◌≡◌, ℕ, ◌+◌, ◌-◌, ◌<◌, ◌≤◌, List, [], ◌∷◌, ◌++◌, length, take, drop, set, sym, ap, ◌∙◌, append_assoc, arith, length-take}
use lib.Seq.{paste, take-set-lt}
use Rattle.std.specs.List.{insert}
use Rattle.std.proofs.lemmas.List.{set-append_left, take_more_set, take-take, drop-take}

pub moved_up : {X : Type 0} (xs : List X) (n at : ℕ) (x : X) → at ≤ n → n < length xs →
    set (paste xs (at + 1) (drop at xs) (n - at)) at x ≡ insert (take n xs) at x ++ drop (n + 1) xs
moved_up {X} xs n at x l h =
    let e : at + (n - at) ≡ n = omega arith in
    let f : at + 1 + (n - at) ≡ n + 1 = omega arith in
    let rest : List X = take (n - at) (drop at xs) ++ drop (at + 1 + (n - at)) xs in
    ap (λ ys. set ys at x) (append_assoc (take (at + 1) xs) (take (n - at) (drop at xs)) (drop (at + 1 + (n - at)) xs))
    ∙ set-append_left (take (at + 1) xs) rest at x (simp length-take (omega arith))
    ∙ ap (λ ys. ys ++ rest) (sym (take-set-lt (at + 1) xs at x (omega arith)) ∙ take_more_set xs at x (omega arith))
    ∙ append_assoc (take at xs) (x ∷ []) rest
    ∙ (λ i. sym (take-take at n xs l) i ++ x ∷ ((sym (drop-take at (n - at) xs) ∙ ap (λ j. drop at (take j xs)) e) i ++ drop (f i) xs))
    ∙ sym (append_assoc (take at (take n xs)) (x ∷ drop at (take n xs)) (drop (n + 1) xs))
