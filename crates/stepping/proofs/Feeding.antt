-- Wires fed one after another give each part what it is wired to.
use Rattle.std.proofs.Common.{◌≡◌, ℕ, ◌+◌, ◌<◌, ◌≤◌, eqb, List, [], ◌∷◌, length, drop, Some, None, Option, sym, refl, ap, ◌∙◌, subst, ⊎_elim, arith}
use Rattle.std.proofs.lemmas.List.{length-set, get_or-set_same, get_or-set_other, drop_more, drop_all}
use Rattle.std.proofs.lemmas.Bool.{cases_eq, cases_lt, cond-false, eq-eqb, ne_eqb, lt-ltb, le-ltb}
use Rattle.fddevs.specs.declared.scheme.Wire.{Wire}
use Rattle.fddevs.specs.Machine.{Family}
use Rattle.fddevs.specs.Rows.{Row, cell_input, cell_given}
use Rattle.fddevs.specs.Scheme.{Wiring, scheme, each}
use Rattle.wiring.specs.declared.wires.Wiring.{Wiring as Table}
use Rattle.wiring.specs.Meaning.{wiring_of, no_wiring}
use Rattle.wiring.specs.Wires.{nth, no_wire, from_source, input_to}
use Rattle.wiring.proofs.Lone.{Lone, lone, lone_drop}
use Rattle.wiring.proofs.Orders.{wired_from}
use Rattle.stepping.specs.Stepping.{on_first, no_cell, nth_cell, machine, fed, cells_given}
use Rattle.stepping.proofs.Made.{made_once, scheme_made}

-- every part that one of these wires leads to takes its input
abbrev pub given_by : Family → List Wire → Row → Row
given_by F ws cs =
    on_first F.count (λ r. each (λ k m c. cell_given m (input_to ws k) c) 0 (scheme F no_wiring).parts r) cs

module _ (F : Family) (w : Wire) (cs : Row) where
  fed_length : length (fed F w cs) ≡ length cs
  fed_length =
      ⊎_elim (λ h. rw (lt-ltb w.target F.count h) (length-set cs w.target _)) (λ h. rw (le-ltb w.target F.count h))
      (cases_lt w.target F.count)

  fed_other : (i : ℕ) → (i ≡ w.target → ⊥) → nth_cell (fed F w cs) i ≡ nth_cell cs i
  fed_other i n =
      ⊎_elim (λ h. rw (lt-ltb w.target F.count h) (get_or-set_other cs w.target i _ no_cell n))
      (λ h. rw (le-ltb w.target F.count h)) (cases_lt w.target F.count)

  fed_here : w.target < F.count → w.target < length cs →
      nth_cell (fed F w cs) w.target ≡ cell_input (machine F w.target) w.input (nth_cell cs w.target)
  fed_here h l = rw (lt-ltb w.target F.count h) (get_or-set_same cs w.target _ no_cell l)

  -- the first wire, and then the others, which lead elsewhere
  feed_more : (ws : List Wire) → input_to ws w.target ≡ None → given_by F ws (fed F w cs) ≡ given_by F (w ∷ ws) cs
  feed_more ws e =
      let m = scheme_made F no_wiring (λ k p c. cell_given p (input_to ws k) c) (fed F w cs) in
      made_once (λ i c. cell_given (machine F i) (input_to (w ∷ ws) i) c) F.count cs _ _
      (record {
        same_length = m.same_length ∙ fed_length;
        inside = λ i h l.
            ⊎_elim
            (λ z.
            let t : w.target < F.count = omega arith in
            let u : w.target < length cs = omega arith in
            let v : w.target < length (fed F w cs) = omega (arith, fed_length) in
            rw z
            (m.inside w.target t v ∙ rw (e, eq-eqb w.target w.target refl) (fed_here t u)))
            (λ z.
            m.inside i h (omega (arith, fed_length))
            ∙ ap (cell_given (machine F i) (input_to ws i)) (fed_other i z)
            ∙ sym
            (ap (λ (o : Option ℕ). cell_given (machine F i) o (nth_cell cs i))
            (cond-false (eqb w.target i) (Some w.input) (input_to ws i) (ne_eqb w.target i (λ y. z (sym y))))))
            (cases_eq i w.target);
        outside = λ i h l.
            m.outside i h (omega (arith, fed_length))
            ∙ ⊎_elim
            (λ z. rw (le-ltb w.target F.count (omega arith)))
            (fed_other i) (cases_eq i w.target);
      })
      (scheme_made F no_wiring (λ k p c. cell_given p (input_to (w ∷ ws) k) c) cs)

feed_none : (F : Family) (cs : Row) → given_by F [] cs ≡ cs
feed_none F cs =
    made_once (λ i c. c) F.count cs _ _ (scheme_made F no_wiring (λ k p c. c) cs)
    (record { same_length = refl; inside = λ i h l. refl; outside = λ i h l. refl })

-- wire by wire: what is left to feed gives what the whole gives
module _ (F : Family) (ws : List Wire) (i : ℕ) (cs whole : Row) (inv : given_by F (drop i ws) cs ≡ whole) where
  pub feed_next : (es : Row) → i < length ws → Lone ws → es ≡ fed F (nth ws i) cs → given_by F (drop (i + 1) ws) es ≡ whole
  feed_next es h l e =
      let split : drop i ws ≡ nth ws i ∷ drop (i + 1) ws = drop_more ws i no_wire h in
      let L : List Wire → Type 0 = Lone in
      ap (given_by F (drop (i + 1) ws)) e
      ∙ feed_more F (nth ws i) cs (drop (i + 1) ws) (subst L split (lone_drop i ws l)).0
      ∙ ap (λ (us : List Wire). given_by F us cs) (sym split) ∙ inv

  pub feed_end : length ws ≤ i → cs ≡ whole
  feed_end h = sym (ap (λ (us : List Wire). given_by F us cs) (drop_all i ws h) ∙ feed_none F cs) ∙ inv

-- the wires from the source are the only ones that can lead from it
from_given : (F : Family) (W : Wiring) (s o : ℕ) (cs : Row) →
    given_by F (from_source W.wires s o) cs ≡ cells_given F W s o cs
from_given F W s o cs = λ i.
    on_first F.count (each (λ k m c. cell_given m (wired_from s o k W.wires i) c) 0 (scheme F W).parts) cs

pub feed_from : (F : Family) (W : Wiring) (s o : ℕ) (ws : List Wire) (cs ds : Row) → ds ≡ given_by F ws cs →
    ws ≡ from_source W.wires s o → ds ≡ cells_given F W s o cs
feed_from F W s o ws cs ds d e = d ∙ ap (λ (us : List Wire). given_by F us cs) e ∙ from_given F W s o cs

pub lone_wires : (T : Table) (s o : ℕ) (ws : List Wire) → ws ≡ from_source (wiring_of T).wires s o → Lone ws
lone_wires T s o ws e = let L : List Wire → Type 0 = Lone in subst L (sym e) (lone T s o)
