use Rattle.std.proofs.Common.{◌≡◌, ℕ, ◌+◌, ◌-◌, ◌<◌, List, length, take, drop, true, false, None, Some, Option, MatchOption, sym, ap, subst, ◌∙◌, arith, rules, tests, take_all}
use Rattle.std.proofs.lemmas.Iterator.{YieldsList-from_slice, IsFirst-from_position}
use Rattle.std.proofs.lemmas.List.{get_or-drop, length-drop}
use Rattle.std.specs.List.{AllWithin, HoldsAt}
use Rattle.std.specs.Option.{unwrap_or}
use Rattle.fddevs.specs.declared.scheme.Wire.{Wire}
use Rattle.wiring.specs.Wires.{no_wire, ascends, comes_below, Splits}
use Rattle.wiring.proofs.Orders.{scanned}
use Rattle.wiring.proofs.wires.Wiring.count_from.Goals as goal

-- the first of the wires that does not come from below the next output, or none
abbrev First : ℕ → ℕ → Option ℕ → List Wire → Type 0
First s o r ws = MatchOption r (AllWithin (λ w. comes_below s (o + 1) w ≡ true) ws 0 (length ws))
    (λ i. (i < length ws) × HoldsAt (λ w. comes_below s (o + 1) w ≡ false) ws i × AllWithin (λ w. comes_below s (o + 1) w ≡ true) ws 0 i)

-- what the scan answers, of the wires behind the first `low`
placed : (ws : List Wire) → ascends ws ≡ true → (s o low : ℕ) → Splits ws s o low → (r : Option ℕ) → First s o r (drop low ws) →
    Splits ws s (o + 1) (low + unwrap_or r (length (drop low ws)))
placed ws up s o low a None h =
    let n = length-drop low ws in
    let b = a.bound in
    scanned ws up s o low (length (drop low ws)) a
    (λ k l. subst (λ w. comes_below s (o + 1) w ≡ true) (get_or-drop low ws k no_wire) (h k no_wire (omega arith) l))
    (λ l. absurd (omega arith)) (omega arith)
placed ws up s o low a (Some i) h =
    let n = length-drop low ws in
    let b = a.bound in
    let u = h.0 in
    scanned ws up s o low i a
    (λ k l. subst (λ w. comes_below s (o + 1) w ≡ true) (get_or-drop low ws k no_wire) (h.2 k no_wire (omega arith) l))
    (λ l. subst (λ w. comes_below s (o + 1) w ≡ false) (get_or-drop low ws i no_wire) (h.1 no_wire)) (omega arith)

pub returns : goal.returns
returns c =
    let x = c.args.self.now in
    let ws = take x.count x.table in
    let s = c.args.source in
    let low = c.args.low in
    let o = c.from.result in
    let r = c.position.result in
    let all = c.wires.result.now in
    let rest = take (length all - low) (drop low all) in
    let whole : rest ≡ drop low ws =
    take_all (length all - low) (drop low all) (let n = length-drop low all in omega arith) ∙ ap (drop low) c.wires.ensures in
    let first : First s o r rest =
    IsFirst-from_position _ _ r (λ w. comes_below s (o + 1) w ≡ false) (λ w. comes_below s (o + 1) w ≡ true) c.position.ensures.ran
    (YieldsList-from_slice rest cc) (λ w q k. search (rules, tests)) (λ w q k. search (rules, tests)) in
    let there : Splits ws s (o + 1) (low + unwrap_or r (length (drop low ws))) =
    placed ws x.ordered s o low (subst (λ n. Splits ws s n low) (sym c.from.ensures) c.requires) r (subst (First s o r) whole first) in
    subst (λ n. Splits ws s (n + 1) (low + c.unwrap_or.result)) c.from.ensures
    (subst (λ n. Splits ws s (o + 1) (low + n)) (sym (c.unwrap_or.ensures ∙ ap (λ ys. unwrap_or r (length ys)) whole)) there)
