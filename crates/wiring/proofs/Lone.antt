-- Of the wires from one output of a source, each leads to a target of its own.
use Rattle.std.proofs.Common.{◌≡◌, ℕ, zero, suc, ◌<◌, true, false, not, List, [], ◌∷◌, length, drop, None, refl, ◌∙◌, ⊎_elim, arith}
use Rattle.std.proofs.lemmas.Bool.{cases_Bool, and_parts, eqb-true, not-true}
use Rattle.std.proofs.lemmas.Bool.Decides.{nat_tests}
use Rattle.fddevs.specs.declared.scheme.Wire.{Wire}
use Rattle.fddevs.specs.Scheme.{links, wired}
use Rattle.fddevs.proofs.Vetting.{true_below}
use Rattle.wiring.specs.declared.wires.Wiring.{Wiring as Table}
use Rattle.wiring.specs.Meaning.{wiring_of}
use Rattle.wiring.specs.Wires.{nth, same_start, is_apart, all_apart, comes_from, from_source, input_to}
use Rattle.wiring.proofs.Orders.{wired_from}

-- no later wire leads to the target of an earlier one
abbrev pub Lone : List Wire → Type 0
Lone [] = Unit {0}
Lone (w ∷ ws) = (input_to ws w.target ≡ None) × Lone ws

pub lone_drop : (i : ℕ) (ws : List Wire) → Lone ws → Lone (drop i ws)
lone_drop zero ws h = h
lone_drop (suc i) [] h = tt
lone_drop (suc i) (w ∷ ws) h = lone_drop i ws h.1

-- by places: no two have one start
abbrev Apart : List Wire → Type 0
Apart ws = (j k : ℕ) → j < k → k < length ws → same_start (nth ws j) (nth ws k) ≡ false

apart_places : (ws : List Wire) → all_apart ws ≡ true → Apart ws
apart_places ws h j k l m =
    not-true _ (true_below (λ i. not (same_start (nth ws i) (nth ws k))) k (true_below (is_apart ws) (length ws) h k m) j l)

turned : (v w : Wire) → same_start v w ≡ false → same_start w v ≡ false
turned v w h = grind (arith, nat_tests)

unwired : (s o t : ℕ) (ws : List Wire) → ((k : ℕ) → k < length ws → links (nth ws k) s o t ≡ false) → wired ws s o t ≡ None
unwired s o t [] h = refl
unwired s o t (w ∷ ws) h = rw (h 0 (omega arith)) (unwired s o t ws (λ k l. h (suc k) (omega arith)))

lone_from : (s o : ℕ) (ws : List Wire) → Apart ws → Lone (from_source ws s o)
lone_from s o [] h = tt
lone_from s o (w ∷ ws) h =
    let rest = lone_from s o ws (λ j k l m. h (suc j) (suc k) (omega arith) (omega arith)) in
    ⊎_elim
    (λ y.
    let p = and_parts _ _ y in
    let a : w.source ≡ s = eqb-true _ _ p.0 in
    let b : w.output ≡ o = eqb-true _ _ p.1 in
    let none : wired ws w.source w.output w.target ≡ None =
    unwired _ _ _ ws (λ k l. turned w (nth ws k) (h 0 (suc k) (omega arith) (omega arith))) in
    rw y (wired_from s o w.target ws ∙ rw (a, b) at none, rest))
    (λ y. rw y rest) (cases_Bool (comes_from s o w))

pub lone : (w : Table) (s o : ℕ) → Lone (from_source (wiring_of w).wires s o)
lone w s o = lone_from s o (wiring_of w).wires (apart_places (wiring_of w).wires w.apart)
