-- The tests of a set's rows pass exactly where the rows are closed.
use Rattle.std.proofs.Common.{◌≡◌, ℕ, zero, suc, ◌<◌, true, false, not, ◌⊎◌, List, [], ◌∷◌, map, length, get_or, sym, refl, ap, ◌∙◌, subst, ap₂, inl, inr, ⊎_elim, arith}
use native.Mathlib.Nat.{sub-zero}
use Rattle.std.specs.List.{ContainsAt as Has}
use Rattle.std.proofs.lemmas.Bool.{eqb-true, eq-eqb, ltb-true, and_parts, and_from, or_cases, or_left, or_right, false≢true, not-true, not_from_false, cases_Bool}
use Rattle.fddevs.specs.declared.part.Span.{Span}
use Rattle.fddevs.specs.declared.part.Span.TheVariants.{Ticks, Unlimited}
use Rattle.fddevs.specs.declared.scheme.Move.{Move}
use Rattle.fddevs.specs.declared.scheme.Move.TheVariants.{Outer, Internal, Delay}
use Rattle.fddevs.specs.Laws.{InTime}
use Rattle.fddevs.specs.Machine.{Machine}
use Rattle.fddevs.specs.Part.{left}
use Rattle.fddevs.specs.Rows.{Row, row, row_after, row_allows, is_due}
use Rattle.fddevs.specs.Scheme.{Scheme, State, at, start}
use Rattle.fddevs.proofs.Cells.{none_within}
use Rattle.fddevs.proofs.Steps.{forth, back}
use Rattle.fddevs.proofs.Vetting.{below_true, true_below}
use Rattle.bars.specs.Bars.{barred}
use Rattle.proof_rules.specs.Judging.{same_span, same_row, among, stays, all_stay}
use Rattle.proof_rules.specs.Rules.{Bars, row_phases, single, Closed}

-- rows that are the same
span_same : (a b : Span) → same_span a b ≡ true → a ≡ b
span_same (Ticks m) (Ticks n) h = ap Ticks (eqb-true m n h)
span_same (Ticks m) Unlimited h = absurd (false≢true h)
span_same Unlimited (Ticks n) h = absurd (false≢true h)
span_same Unlimited Unlimited h = refl

same_span_refl : (a : Span) → same_span a a ≡ true
same_span_refl (Ticks m) = eq-eqb m m refl
same_span_refl Unlimited = refl

row_same : (a b : Row) → same_row a b ≡ true → a ≡ b
row_same [] [] h = refl
row_same [] (d ∷ ds) h = absurd (false≢true h)
row_same (c ∷ cs) [] h = absurd (false≢true h)
row_same (c ∷ cs) (d ∷ ds) h =
    let p = and_parts _ _ h in
    let q = and_parts _ _ p.0 in
    let e = eqb-true c.phase d.phase q.0 in
    let f = span_same c.remaining d.remaining q.1 in
    ap₂ ◌∷◌ (λ i. record { phase = e i; remaining = f i }) (row_same cs ds p.1)

same_row_refl : (a : Row) → same_row a a ≡ true
same_row_refl [] = refl
same_row_refl (c ∷ cs) =
    and_from _ _ (and_from _ _ (eq-eqb c.phase c.phase refl) (same_span_refl c.remaining)) (same_row_refl cs)

pub among_has : (xs : List Row) (r : Row) → among xs r ≡ true → Has xs r
among_has [] r h = absurd (false≢true h)
among_has (x ∷ xs) r h = go (or_cases _ _ h) (λ e. among_has xs r e)
  where
    go : (same_row x r ≡ true) ⊎ (among xs r ≡ true) → (among xs r ≡ true → Has xs r) → Has (x ∷ xs) r
    go (inl e) ih = (0, omega arith, λ d. row_same x r e)
    go (inr e) ih = let k = ih e in (suc k.0, omega (arith, k.1), λ d. k.2 d)

pub has_among : (xs : List Row) (r : Row) → Has xs r → among xs r ≡ true
has_among xs r h = go xs h.0 h.1 h.2
  where
    go : (xs : List Row) (k : ℕ) → k < length xs → ((d : Row) → get_or xs k d ≡ r) → among xs r ≡ true
    go [] k l e = absurd (omega arith)
    go (x ∷ xs) zero l e = or_left _ _ (subst (λ (y : Row). same_row y r ≡ true) (sym (e r)) (same_row_refl r))
    go (x ∷ xs) (suc k) l e = or_right _ _ (go xs k (omega arith) e)

-- only a part that exists is due
due_exists : (ms : List Machine) (r : Row) (p : ℕ) → at (λ m c. is_due c.remaining) false ms r p ≡ true → p < length ms
due_exists [] r p h = absurd (false≢true h)
due_exists (m ∷ ms) [] p h = absurd (false≢true h)
due_exists (m ∷ ms) (c ∷ cs) zero h = omega arith
due_exists (m ∷ ms) (c ∷ cs) (suc p) h = let l = due_exists ms cs p h in omega arith

module _ (S : Scheme) (rows : List Row) (r : Row) where
  stays_to : (a : Move) → stays S rows r a ≡ true → row_allows S r a ≡ true → Has rows (row_after S r a)
  stays_to a h e =
      ⊎_elim (λ n. absurd (false≢true (sym (not-true _ n) ∙ e))) (λ m. among_has rows _ m) (or_cases _ _ h)

  stays_from : (a : Move) → (row_allows S r a ≡ true → Has rows (row_after S r a)) → stays S rows r a ≡ true
  stays_from a f =
      ⊎_elim (λ e. or_right _ _ (has_among rows _ (f e))) (λ e. or_left _ _ (not_from_false _ e)) (cases_Bool (row_allows S r a))

  -- every single step from the row leads to one of the rows
  pub stay_to : all_stay S rows r ≡ true → (a : Move) → single a ≡ true → row_allows S r a ≡ true → Has rows (row_after S r a)
  stay_to h (Outer x) one e =
      let q = and_parts _ _ (and_parts (stays S rows r (Delay 1)) _ h).1 in
      stays_to (Outer x) (true_below _ S.wiring.outer_inputs q.0 x (ltb-true x S.wiring.outer_inputs e)) e
  stay_to h (Internal p) one e =
      let q = and_parts _ _ (and_parts (stays S rows r (Delay 1)) _ h).1 in
      stays_to (Internal p) (true_below _ (length S.parts) q.1 p (due_exists S.parts r p e)) e
  stay_to h (Delay d) one e =
      let q : stays S rows r (Delay d) ≡ true = rw (eqb-true d 1 one) (and_parts (stays S rows r (Delay 1)) _ h).0 in
      stays_to (Delay d) q e

  pub stay_from : ((a : Move) → single a ≡ true → row_allows S r a ≡ true → Has rows (row_after S r a)) → all_stay S rows r ≡ true
  stay_from f =
      and_from _ _ (stays_from (Delay 1) (f (Delay 1) refl))
      (and_from _ _ (below_true _ S.wiring.outer_inputs (λ x _. stays_from (Outer x) (f (Outer x) refl)))
      (below_true _ (length S.parts) (λ p _. stays_from (Internal p) (f (Internal p) refl))))

-- a row as a state: what remains is all of its lifespan
abbrev as_state : Row → State
as_state r = map (λ c. record { phase = c.phase; lifespan = c.remaining; elapsed = 0 }) r

left_all : (l : Span) → left l 0 ≡ l
left_all (Ticks l) = ap Ticks (sub-zero l)
left_all Unlimited = refl

row_as_state : (r : Row) → row (as_state r) ≡ r
row_as_state [] = refl
row_as_state (c ∷ cs) = ap₂ ◌∷◌ (λ i. record { phase = c.phase; remaining = left_all c.remaining i }) (row_as_state cs)

as_state_in_time : (r : Row) → InTime (as_state r)
as_state_in_time [] = tt
as_state_in_time (c ∷ cs) = (none_within c.remaining, as_state_in_time cs)

-- the tests, row by row
pub record Passes (S : Scheme) (bars : Bars) (rows : List Row) : Type 0 where
  pub starts : among rows (row (start S)) ≡ true
  pub unbarred : (r : Row) → Has rows r → not (barred bars (row_phases r)) ≡ true
  pub stay : (r : Row) → Has rows r → all_stay S rows r ≡ true

module _ (S : Scheme) (bars : Bars) (rows : List Row) where
  pub closed_to : Passes S bars rows → Closed S bars rows
  closed_to h = record {
    starts = among_has rows _ h.starts;
    unbarred = λ r i. not-true _ (h.unbarred r i);
    stays = λ s t a i one k.
        let f = forth k in
        subst (Has rows) (sym f.1) (stay_to S rows (row s) (h.stay (row s) i) a one f.0);
  }

  row_stays : Closed S bars rows → (r : Row) → Has rows r → (a : Move) → single a ≡ true → row_allows S r a ≡ true →
      Has rows (row_after S r a)
  row_stays h r i a one e =
      let s = as_state r in
      let q = row_as_state r in
      let k = back S s (as_state_in_time r) a (ap (λ (x : Row). row_allows S x a) q ∙ e) in
      let f = forth k.1 in
      let j = h.stays s k.0 a (subst (Has rows) (sym q) i) one k.1 in
      subst (Has rows) (f.1 ∙ ap (λ (x : Row). row_after S x a) q) j

  pub closed_from : Closed S bars rows → Passes S bars rows
  closed_from h = record {
    starts = has_among rows _ h.starts;
    unbarred = λ r i. not_from_false _ (h.unbarred r i);
    stay = λ r i. stay_from S rows r (row_stays h r i);
  }
