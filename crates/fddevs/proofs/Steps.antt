-- A state's row takes the steps that the state takes.
use Rattle.std.proofs.Common.{◌≡◌, ℕ, zero, suc, Bool, true, false, cond, eqb, List, [], ◌∷◌, map, Some, None, Option, sym, refl, ap, ◌∙◌, subst, ap₂, inl, inr}
use Rattle.std.specs.List.{AllByRecursion}
use Rattle.std.proofs.lemmas.Bool.{leb-true, le-leb, ltb-true, lt-ltb, and_parts, and_from, false≢true}
use Rattle.fddevs.specs.declared.part.Cell.{Cell}
use Rattle.fddevs.specs.declared.part.Mark.{Mark}
use Rattle.fddevs.specs.declared.part.Mark.TheVariants.{Keep, Restart}
use Rattle.fddevs.specs.declared.part.Output.{Output}
use Rattle.fddevs.specs.declared.part.Output.TheVariants.{Silent}
use Rattle.fddevs.specs.declared.part.PartState.{PartState}
use Rattle.fddevs.specs.declared.scheme.Move.{Move}
use Rattle.fddevs.specs.declared.scheme.Move.TheVariants.{Outer, Internal, Delay}
use Rattle.fddevs.specs.Machine.{Machine}
use Rattle.fddevs.specs.Part.{Within, Due, CanDelay, begin, led, after_internal, after_delay}
use Rattle.fddevs.specs.Scheme.{Scheme, State, Step, comes, fires, elapses, Run, stop, step, Enters, Entered, outside, given, each, at, wired, heard, sent, after_outer, after_part}
use Rattle.fddevs.specs.Rows.{cell, row, cell_given, cell_internal, cell_delay, lasts, is_due, every, row_after, row_allows}
use Rattle.fddevs.specs.Laws.{InTime, Allowed, RowsAgree}
use Rattle.fddevs.proofs.Cells.{of_fresh, of_input, of_delay, wait_forth, wait_back, due_forth, due_back, none_within}

-- rows of results
of_each : (f : ℕ → Machine → PartState → PartState) (g : ℕ → Machine → Cell → Cell) →
    ((k : ℕ) (m : Machine) (c : PartState) → cell (f k m c) ≡ g k m (cell c)) →
    (k : ℕ) (ms : List Machine) (cs : State) → row (each f k ms cs) ≡ each g k ms (row cs)
of_each f g h k [] cs = refl
of_each f g h k (m ∷ ms) [] = refl
of_each f g h k (m ∷ ms) (c ∷ cs) = ap₂ ◌∷◌ (h k m c) (of_each f g h (suc k) ms cs)

of_map : (d : ℕ) (cs : State) → row (map (after_delay d) cs) ≡ map (cell_delay d) (row cs)
of_map d [] = refl
of_map d (c ∷ cs) = ap₂ ◌∷◌ (of_delay d c) (of_map d cs)

of_given : (m : Machine) (o : Option ℕ) (c : PartState) → cell (given m o c) ≡ cell_given m o (cell c)
of_given m None c = refl
of_given m (Some i) c = of_input m i c

of_sent : (ms : List Machine) (cs : State) (p : ℕ) →
    at (λ m c. m.output c.phase) Silent ms cs p ≡ at {B = Output} (λ m c. m.output c.phase) Silent ms (row cs) p
of_sent [] cs p = refl
of_sent (m ∷ ms) [] p = refl
of_sent (m ∷ ms) (c ∷ cs) zero = refl
of_sent (m ∷ ms) (c ∷ cs) (suc p) = of_sent ms cs p

of_one : (b : Bool) (m : Machine) (o : Option ℕ) (c : PartState) →
    cell (cond b (after_internal m c) (given m o c)) ≡ cond b (cell_internal m (cell c)) (cell_given m o (cell c))
of_one true m o c = of_fresh m (m.next c.phase)
of_one false m o c = of_given m o c

row_of_outer : (S : Scheme) (x : ℕ) (s : State) → row (after_outer S x s) ≡ row_after S (row s) (Outer x)
row_of_outer S x s = of_each _ _ (λ k m c. of_given m (wired S.wiring.wires outside x k) c) 0 S.parts s

row_of_part : (S : Scheme) (p : ℕ) (s : State) → row (after_part S p s) ≡ row_after S (row s) (Internal p)
row_of_part S p s =
    of_each _ _ (λ k m c. of_one (eqb k p) m (heard S.wiring.wires p (sent S p s) k) c) 0 S.parts s ∙
    ap
    (λ (o : Output). each
    (λ k m c. cond (eqb k p) (cell_internal m c) (cell_given m (heard S.wiring.wires p o k) c)) 0 S.parts (row s))
    (of_sent S.parts s p)

-- what is allowed
waits_forth : (d : ℕ) (cs : State) → AllByRecursion (CanDelay d) cs → every (λ c. lasts d c.remaining) (row cs) ≡ true
waits_forth d [] h = refl
waits_forth d (c ∷ cs) h = and_from _ _ (wait_forth c.lifespan c.elapsed d h.0) (waits_forth d cs h.1)

waits_back : (d : ℕ) (cs : State) → InTime cs → every (λ c. lasts d c.remaining) (row cs) ≡ true → AllByRecursion (CanDelay d) cs
waits_back d [] w h = tt
waits_back d (c ∷ cs) w h =
    let b = and_parts _ _ h in
    (wait_back c.lifespan c.elapsed d w.0 b.0, waits_back d cs w.1 b.1)

dues_forth : (ms : List Machine) (cs : State) (p : ℕ) → at (λ m c. Due c) ⊥ ms cs p →
    at (λ m c. is_due c.remaining) false ms (row cs) p ≡ true
dues_forth [] cs p h = absurd h
dues_forth (m ∷ ms) [] p h = absurd h
dues_forth (m ∷ ms) (c ∷ cs) zero h = due_forth c.lifespan c.elapsed h
dues_forth (m ∷ ms) (c ∷ cs) (suc p) h = dues_forth ms cs p h

dues_back : (ms : List Machine) (cs : State) (p : ℕ) → InTime cs →
    at (λ m c. is_due c.remaining) false ms (row cs) p ≡ true → at (λ m c. Due c) ⊥ ms cs p
dues_back [] cs p w h = false≢true h
dues_back (m ∷ ms) [] p w h = false≢true h
dues_back (m ∷ ms) (c ∷ cs) zero w h = due_back c.lifespan c.elapsed w.0 h
dues_back (m ∷ ms) (c ∷ cs) (suc p) w h = dues_back ms cs p w.1 h

-- every state that a run enters is in time
abbrev Timely : PartState → Type 0
Timely c = Within c.lifespan c.elapsed

led_in_time : (m : Machine) (k : Mark) (s : ℕ) (c : PartState) → Timely c → Timely (led m k s c)
led_in_time m Restart s c w = none_within (m.lifespan s)
led_in_time m Keep s c w = w

given_in_time : (m : Machine) (o : Option ℕ) (c : PartState) → Timely c → Timely (given m o c)
given_in_time m None c w = w
given_in_time m (Some i) c w = led_in_time m (m.external c.phase i).mark (m.external c.phase i).next c w

one_in_time : (b : Bool) (m : Machine) (o : Option ℕ) (c : PartState) → Timely c →
    Timely (cond b (after_internal m c) (given m o c))
one_in_time true m o c w = none_within (m.lifespan (m.next c.phase))
one_in_time false m o c w = given_in_time m o c w

each_in_time : (f : ℕ → Machine → PartState → PartState) →
    ((k : ℕ) (m : Machine) (c : PartState) → Timely c → Timely (f k m c)) →
    (k : ℕ) (ms : List Machine) (cs : State) → InTime cs → InTime (each f k ms cs)
each_in_time f h k [] cs w = tt
each_in_time f h k (m ∷ ms) [] w = tt
each_in_time f h k (m ∷ ms) (c ∷ cs) w = (h k m c w.0, each_in_time f h (suc k) ms cs w.1)

pub map_in_time : (d : ℕ) (cs : State) → AllByRecursion (CanDelay d) cs → InTime (map (after_delay d) cs)
map_in_time d [] h = tt
map_in_time d (c ∷ cs) h = (h.0, map_in_time d cs h.1)

pub start_in_time : (ms : List Machine) → InTime (map begin ms)
start_in_time [] = tt
start_in_time (m ∷ ms) = (none_within (m.lifespan m.start), start_in_time ms)

pub step_in_time : {S : Scheme} {s : State} {a : Move} {t : State} → Step S s a t → InTime s → InTime t
step_in_time {S} (comes {s = s} x h) w =
    each_in_time _ (λ k m c. given_in_time m (wired S.wiring.wires outside x k) c) 0 S.parts s w
step_in_time {S} (fires {s = s} p h) w =
    each_in_time _ (λ k m c. one_in_time (eqb k p) m (heard S.wiring.wires p (sent S p s) k) c) 0 S.parts s w
step_in_time (elapses {s = s} d h k) w = map_in_time d s k

enters_in_time : {S : Scheme} {s : State} {ms : List Move} {t : State} (r : Run S s ms t) (u : State) → InTime s →
    Enters r u → InTime u
enters_in_time (stop {s = s}) u w e = subst InTime (sym e) w
enters_in_time (step {s = s} h r) u w (inl e) = subst InTime (sym e) w
enters_in_time (step {s = s} h r) u w (inr e) = enters_in_time r u (step_in_time h w) e

pub in_time : {S : Scheme} {u : State} → Entered S u → InTime u
in_time {S} {u} e = enters_in_time e.run u (start_in_time S.parts) e.enters

-- both ways
pub forth : {S : Scheme} {s : State} {a : Move} {t : State} → Step S s a t →
    (row_allows S (row s) a ≡ true) × (row t ≡ row_after S (row s) a)
forth {S} (comes {s = s} x h) = (lt-ltb x S.wiring.outer_inputs h, row_of_outer S x s)
forth {S} (fires {s = s} p h) = (dues_forth S.parts s p h, row_of_part S p s)
forth (elapses {s = s} d h k) = (and_from _ _ (le-leb 1 d h) (waits_forth d s k), of_map d s)

pub back : (S : Scheme) (s : State) → InTime s → (a : Move) → row_allows S (row s) a ≡ true → Allowed S s a
back S s w (Outer x) h = (after_outer S x s, comes x (ltb-true x S.wiring.outer_inputs h))
back S s w (Internal p) h = (after_part S p s, fires p (dues_back S.parts s p w h))
back S s w (Delay d) h =
    let b = and_parts _ _ h in
    (map (after_delay d) s, elapses d (leb-true 1 d b.0) (waits_back d s w b.1))

pub rows_agree : RowsAgree
rows_agree S u e =
    (in_time e, λ a. record { allowed = (λ h. (forth h.1).0, back S u (in_time e) a); results = λ t h. (forth h).1 })
