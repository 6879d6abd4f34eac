-- The order of wires.
use Rattle.std.proofs.Common.{◌≡◌, ℕ, zero, suc, ◌+◌, ◌-◌, ◌<◌, ◌≤◌, Bool, true, false, cond, eqb, List, [], ◌∷◌, ◌++◌, length, take, drop, Some, None, Option, Bor, filter, sym, refl, ap, ◌∙◌, subst, ⊎_elim, inl, inr, sub-one, arith}
use Rattle.std.specs.List.{find}
use Rattle.std.specs.List.Sorted.{IsPartitionPoint, IsPartitionedBy}
use Rattle.std.specs.Option.{option_map}
use Rattle.std.proofs.lemmas.List.{get_or_default}
use Rattle.std.proofs.lemmas.List.{take-append-drop, get_or-take, get_or-drop, length-take-le, length-drop, append-nil}
use Rattle.std.proofs.lemmas.List.Elements.{filter-append}
use Rattle.std.proofs.lemmas.Bool.{cases_lt, cases_Bool, or_cases, and_parts, both_ways, eqb-true}
use Rattle.std.proofs.lemmas.Bool.Decides.{nat_tests}
use Rattle.fddevs.specs.declared.scheme.Wire.{Wire}
use Rattle.fddevs.specs.Scheme.{wired}
use Rattle.fddevs.proofs.Vetting.{true_below}
use Rattle.wiring.specs.Wires.{bytes, before, no_wire, nth, in_order, ascends, comes_below, comes_from, from_source, input_to, Splits}

-- a wire that comes before one from below comes from below
below_before : (s o : ℕ) (v w : Wire) → before (bytes v) (bytes w) ≡ true → comes_below s o w ≡ true → comes_below s o v ≡ true
below_before s o v w b h = grind (arith, nat_tests)

module _ (ws : List Wire) (up : ascends ws ≡ true) where
  pub next_after : (k : ℕ) → suc k < length ws → before (bytes (nth ws k)) (bytes (nth ws (suc k))) ≡ true
  next_after k h =
      ⊎_elim (λ z. absurd (omega (arith, eqb-true (suc k) 0 z))) (λ z. rw sub-one at z)
      (or_cases (eqb (suc k) 0) (before (bytes (nth ws (suc k - 1))) (bytes (nth ws (suc k))))
      (true_below (in_order ws) (length ws) up (suc k) h))

  pub below_down : (s o k j : ℕ) → j ≤ k → k < length ws → comes_below s o (nth ws k) ≡ true → comes_below s o (nth ws j) ≡ true
  below_down s o zero j h l e = let z : j ≡ 0 = omega arith in rw z e
  below_down s o (suc k) j h l e =
      ⊎_elim
      (λ m. below_down s o k j (omega arith) (omega arith) (below_before s o (nth ws k) (nth ws (suc k)) (next_after k l) e))
      (λ g. let z : j ≡ suc k = omega arith in rw z e) (cases_lt j (suc k))

  pub below_parts : (s o : ℕ) → IsPartitionedBy (comes_below s o) ws
  below_parts s o i j d h l e =
      let m : i < length ws = omega arith in
      subst (λ w. comes_below s o w ≡ true) (get_or_default ws i no_wire d m)
      (below_down s o j i h l (subst (λ w. comes_below s o w ≡ true) (get_or_default ws j d no_wire l) e))

-- a partition point splits the wires
pub split_there : (ws : List Wire) (s o i : ℕ) → i ≤ length ws →
    IsPartitionPoint (λ w. comes_below s o w ≡ true) (λ w. comes_below s o w ≡ false) ws i → Splits ws s o i
split_there ws s o i b h = record {
  bound = b;
  front = λ k l. h.0 k no_wire (omega arith) l;
  back = λ k l m. h.1 k no_wire l m;
}

-- the first of the wires that leads to the target
pub first_to : (t : ℕ) (ws : List Wire) → input_to ws t ≡ option_map (λ w. w.input) (find (λ w. eqb w.target t) ws)
first_to t [] = refl
first_to t (w ∷ ws) =
    elim (eqb w.target t) as (λ b. cond b (Some w.input) (input_to ws t) ≡ option_map (λ w. w.input) (cond b (Some w) (find (λ w. eqb w.target t) ws)))
    [ true ↦ refl | false ↦ first_to t ws ]

pub found_to : (t : ℕ) (ws : List Wire) (r o : Option (Bor Wire)) → r ≡ o →
    option_map (λ x. x.now) r ≡ find (λ w. eqb w.target t) ws → option_map (λ x. x.now.input) o ≡ input_to ws t
found_to t ws r None e h = sym (first_to t ws ∙ ap (option_map (λ w. w.input)) (sym h ∙ ap (option_map (λ x. x.now)) e))
found_to t ws r (Some x) e h = sym (first_to t ws ∙ ap (option_map (λ w. w.input)) (sym h ∙ ap (option_map (λ x. x.now)) e))

-- a filter that keeps nothing, or all
module _ (p : Wire → Bool) where
  kept_none : (xs : List Wire) → ((k : ℕ) → k < length xs → p (nth xs k) ≡ false) → filter p xs ≡ []
  kept_none [] h = refl
  kept_none (x ∷ xs) h = rw (h 0 (omega arith)) (kept_none xs (λ k l. h (suc k) (omega arith)))

  kept_all : (xs : List Wire) → ((k : ℕ) → k < length xs → p (nth xs k) ≡ true) → filter p xs ≡ xs
  kept_all [] h = refl
  kept_all (x ∷ xs) h = rw (h 0 (omega arith)) (ap (λ ys. x ∷ ys) (kept_all xs (λ k l. h (suc k) (omega arith))))

-- the wires from one output of a source stand between those from below it and those from below the next output
module _ (s o : ℕ) (w : Wire) where
  not_below : comes_below s o w ≡ true → comes_from s o w ≡ false
  not_below h = grind (arith, nat_tests)

  neither : comes_below s o w ≡ false → comes_below s (o + 1) w ≡ true → comes_from s o w ≡ true
  neither h g = grind (arith, nat_tests)

  not_above : comes_below s (o + 1) w ≡ false → comes_from s o w ≡ false
  not_above h = grind (arith, nat_tests)

  below_next : comes_below s o w ≡ true → comes_below s (o + 1) w ≡ true
  below_next h = grind (arith, nat_tests)

module _ (ws : List Wire) (s o low high : ℕ) (a : Splits ws s o low) (b : Splits ws s (o + 1) high) where
  pub in_turn : low ≤ high
  in_turn =
      ⊎_elim
      (λ l.
      absurd
      (both_ways _ (b.back high (omega arith) (omega (arith, a.bound))) (below_next s o (nth ws high) (a.front high l))))
      (λ g. g) (cases_lt high low)

  lead : filter (comes_from s o) (take low ws) ≡ []
  lead =
      kept_none (comes_from s o) (take low ws)
      (λ k l.
      let m : k < low = omega (arith, length-take-le low ws a.bound) in
      rw (get_or-take low ws k no_wire m) (not_below s o (nth ws k) (a.front k m)))

  between : filter (comes_from s o) (take (high - low) (drop low ws)) ≡ take (high - low) (drop low ws)
  between =
      kept_all (comes_from s o) (take (high - low) (drop low ws))
      (λ k l.
      let n = length-take-le (high - low) (drop low ws) (omega (arith, length-drop low ws, b.bound)) in
      let m : k < high - low = omega arith in
      rw (get_or-take (high - low) (drop low ws) k no_wire m, get_or-drop low ws k no_wire)
      (neither s o (nth ws (low + k)) (a.back (low + k) (omega arith) (omega (arith, b.bound)))
      (b.front (low + k) (omega arith))))

  rest : filter (comes_from s o) (drop (high - low) (drop low ws)) ≡ []
  rest =
      kept_none (comes_from s o) (drop (high - low) (drop low ws))
      (λ k l.
      let n = length-drop (high - low) (drop low ws) in
      let n' = length-drop low ws in
      let h = in_turn in
      rw (get_or-drop (high - low) (drop low ws) k no_wire, get_or-drop low ws ((high - low) + k) no_wire)
      (not_above s o (nth ws (low + ((high - low) + k))) (b.back (low + ((high - low) + k)) (omega arith) (omega arith))))

  pub stretched : take (high - low) (drop low ws) ≡ from_source ws s o
  stretched =
      let p : Wire → Bool = comes_from s o in
      let middle = take (high - low) (drop low ws) in
      let end = drop (high - low) (drop low ws) in
      let one : filter p ws ≡ filter p (drop low ws) =
      ap (filter p) (sym (take-append-drop low ws)) ∙ filter-append p (take low ws) (drop low ws)
      ∙ ap (λ z. z ++ filter p (drop low ws)) lead in
      let two : filter p (drop low ws) ≡ filter p middle ++ filter p end =
      ap (filter p) (sym (take-append-drop (high - low) (drop low ws))) ∙ filter-append p middle end in
      sym (one ∙ two ∙ ap (λ z. filter p middle ++ z) rest ∙ append-nil _ ∙ between)

-- behind those from below an output, the wires that come from below the next one are counted by a scan
module _ (ws : List Wire) (up : ascends ws ≡ true) (s o low count : ℕ) (a : Splits ws s o low)
    (on : (k : ℕ) → k < count → comes_below s (o + 1) (nth ws (low + k)) ≡ true)
    (off : low + count < length ws → comes_below s (o + 1) (nth ws (low + count)) ≡ false) where
  pub scanned : low + count ≤ length ws → Splits ws s (o + 1) (low + count)
  scanned fits = record {
    bound = fits;
    front = λ k l. elim (cases_lt k low) [
      | inl h ↦ below_next s o (nth ws k) (a.front k h)
      | inr h ↦ (let e : low + (k - low) ≡ k = omega arith in subst (λ j. comes_below s (o + 1) (nth ws j) ≡ true) e (on (k - low) (omega arith)))
    ];
    back = λ k l m.
        ⊎_elim
        (λ y. absurd (both_ways _ (off (omega arith)) (below_down ws up s (o + 1) k (low + count) l m y)))
        (λ y. y) (cases_Bool (comes_below s (o + 1) (nth ws k)));
  }

-- the wires from the source are the only ones that can lead from it
pub wired_from : (s o t : ℕ) (ws : List Wire) → input_to (from_source ws s o) t ≡ wired ws s o t
wired_from s o t [] = refl
wired_from s o t (w ∷ ws) =
    ⊎_elim
    (λ y.
    let p = and_parts (eqb w.source s) (eqb w.output o) y in
    rw (p.0, p.1) (ap (cond (eqb w.target t) (Some w.input)) (wired_from s o t ws)))
    (λ y. let z = wired_from s o t ws in grind (arith, nat_tests)) (cases_Bool (comes_from s o w))
