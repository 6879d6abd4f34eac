-- Judging tells of the faults there are: the smallest number, and of that number the first place.
use Rattle.std.proofs.Common.{◌≡◌, ℕ, suc, ◌<◌, ◌≤◌, Bool, true, false, not, ◌⊎◌, List, sym, refl, ap, ◌∙◌, subst, inl, inr, ⊎_elim, arith}
use Rattle.std.proofs.lemmas.Bool.{cases_Bool, both_ways}
use Rattle.fddevs.specs.declared.refusal.Layer.TheVariants.{Proof}
use Rattle.fddevs.specs.declared.refusal.Refusal.{Refusal}
use Rattle.fddevs.specs.declared.refusal.Refusal.TheVariants.{Body, RowPhase, RowOrder, StartAbsent, RowBarred, RowLeaves}
use Rattle.fddevs.specs.Rows.{row}
use Rattle.fddevs.specs.Scheme.{Scheme, start}
use Rattle.fddevs.specs.Refusals.{number_of}
use Rattle.fddevs.specs.Vetting.{NotAfter, Tells}
use Rattle.fddevs.proofs.Vetting.{tells_unless, tells_found, tells_then, tells_as, FaultAt}
use Rattle.bars.specs.Bars.{barred}
use Rattle.set_file.specs.Layout.{width, row_count}
use Rattle.proof_rules.specs.Faults.{SetFault, not_rows, no_phase, not_above, no_start, is_barred, leaves}
use Rattle.proof_rules.specs.Judging.{row_at, rows_in, phases_exist, in_order, among, all_stay, is_rows, set_vetting}
use Rattle.proof_rules.specs.Rules.{Bars, row_phases}
use Rattle.proof_rules.proofs.Tested.{among_has, has_among, stay_to, stay_from}

-- a smaller number comes first
pub smaller : (e o : Refusal) → number_of e < number_of o → NotAfter e o
smaller e o h = record { smallest = omega arith; earliest = λ s. absurd (omega arith) }

-- faults of a number below a bound, and from a bound on
abbrev Above : ℕ → (Refusal → Type 0) → Type 0
Above n P = (o : Refusal) → P o → n ≤ number_of o

abbrev Of : ℕ → (Refusal → Type 0) → Type 0
Of n P = (o : Refusal) → P o → number_of o ≡ n

pub in_turn : (n : ℕ) (P Q : Refusal → Type 0) → Of n P → Above (suc n) Q → (e o : Refusal) → P e → Q o → NotAfter e o
in_turn n P Q p q e o x y = smaller e o (omega (arith, p e x, q o y))

either : (n : ℕ) (P Q : Refusal → Type 0) → Of n P → Above (suc n) Q → Above n (λ o. P o ⊎ Q o)
either n P Q p q o = ⊎_elim (λ x. omega (arith, p o x)) (λ y. omega (arith, q o y))

pub one : (n : ℕ) (b : Bool) (e : Refusal) → number_of e ≡ n → Of n (λ o. (b ≡ false) × (o ≡ e))
one n b e h o x = ap number_of x.1 ∙ h

placed : (n : ℕ) (t : ℕ → Bool) (m : ℕ) (refusal : ℕ → Refusal) → ((k : ℕ) → number_of (refusal k) ≡ n) → Of n (FaultAt t m refusal)
placed n t m refusal h o x = ap number_of x.same ∙ h x.at_place

module _ (S : Scheme) (bars : Bars) (n : ℕ) (body : List ℕ) where
  -- the five findings on the rows, by their tests
  abbrev Phases : Refusal → Type 0
  Phases = FaultAt (λ k. phases_exist S.parts (row_at n body k)) (row_count (width n) body) RowPhase

  abbrev Order : Refusal → Type 0
  Order = FaultAt (in_order n body) (row_count (width n) body) (RowOrder Proof)

  abbrev Start : Refusal → Type 0
  Start o = (among (rows_in n body) (row (start S)) ≡ false) × (o ≡ StartAbsent)

  abbrev Barred : Refusal → Type 0
  Barred = FaultAt (λ k. not (barred bars (row_phases (row_at n body k)))) (row_count (width n) body) RowBarred

  abbrev Steps : Refusal → Type 0
  Steps = FaultAt (λ k. all_stay S (rows_in n body) (row_at n body k)) (row_count (width n) body) RowLeaves

  abbrev Rows : Refusal → Type 0
  Rows o = (is_rows n body ≡ false) × (o ≡ Body Proof)

  abbrev Tests : Refusal → Type 0
  Tests o = Rows o ⊎ (Phases o ⊎ (Order o ⊎ (Start o ⊎ (Barred o ⊎ Steps o))))

  steps_of : Of 23 Steps
  steps_of = placed 23 _ _ RowLeaves (λ k. refl)

  from_22 : Above 22 (λ o. Barred o ⊎ Steps o)
  from_22 = either 22 Barred Steps (placed 22 _ _ RowBarred (λ k. refl)) (λ o x. omega (arith, steps_of o x))

  from_21 : Above 21 (λ o. Start o ⊎ (Barred o ⊎ Steps o))
  from_21 = either 21 Start _ (one 21 _ StartAbsent refl) from_22

  from_20 : Above 20 (λ o. Order o ⊎ (Start o ⊎ (Barred o ⊎ Steps o)))
  from_20 = either 20 Order _ (placed 20 _ _ (RowOrder Proof) (λ k. refl)) from_21

  from_19 : Above 19 (λ o. Phases o ⊎ (Order o ⊎ (Start o ⊎ (Barred o ⊎ Steps o))))
  from_19 = either 19 Phases _ (placed 19 _ _ RowPhase (λ k. refl)) from_20

  tests_tell : Tells Tests (set_vetting S bars n body)
  tests_tell =
      tells_then _ _ _ _ (tells_unless _ (Body Proof))
      (tells_then _ _ _ _ (tells_found _ RowPhase (record { number = λ j k. refl; place = λ k. refl }) _)
      (tells_then _ _ _ _ (tells_found _ (RowOrder Proof) (record { number = λ j k. refl; place = λ k. refl }) _)
      (tells_then _ _ _ _ (tells_unless _ StartAbsent)
      (tells_then _ _ _ _ (tells_found _ RowBarred (record { number = λ j k. refl; place = λ k. refl }) _)
      (tells_found _ RowLeaves (record { number = λ j k. refl; place = λ k. refl }) _)
      (in_turn 22 Barred Steps (placed 22 _ _ RowBarred (λ k. refl)) (λ o x. omega (arith, steps_of o x))))
      (in_turn 21 Start _ (one 21 _ StartAbsent refl) from_22))
      (in_turn 20 Order _ (placed 20 _ _ (RowOrder Proof) (λ k. refl)) from_21))
      (in_turn 19 Phases _ (placed 19 _ _ RowPhase (λ k. refl)) from_20))
      (in_turn 18 Rows _ (one 18 _ (Body Proof) refl) from_19)

  -- a test that fails is a fault
  to_fault : (o : Refusal) → Tests o → SetFault S bars n body o
  to_fault o (inl x) = subst (SetFault S bars n body) (sym x.1) (not_rows x.0)
  to_fault o (inr (inl x)) = subst (SetFault S bars n body) (sym x.same) (no_phase x.at_place x.below x.fails)
  to_fault o (inr (inr (inl x))) = subst (SetFault S bars n body) (sym x.same) (not_above x.at_place x.below x.fails)
  to_fault o (inr (inr (inr (inl x)))) =
      subst (SetFault S bars n body) (sym x.1) (no_start (λ i. both_ways _ x.0 (has_among (rows_in n body) (row (start S)) i)))
  to_fault o (inr (inr (inr (inr (inl x))))) =
      subst (SetFault S bars n body) (sym x.same) (is_barred x.at_place x.below (was_true _ x.fails))
    where
      was_true : (b : Bool) → not b ≡ false → b ≡ true
      was_true true h = refl
      was_true false h = sym h
  to_fault o (inr (inr (inr (inr (inr x))))) =
      subst (SetFault S bars n body) (sym x.same)
      (leaves x.at_place x.below (λ f. both_ways _ x.fails (stay_from S (rows_in n body) (row_at n body x.at_place) f)))

  from_fault : (o : Refusal) → SetFault S bars n body o → Tests o
  from_fault o (not_rows h) = inl (h, refl)
  from_fault o (no_phase k l h) = inr (inl (record { at_place = k; below = l; fails = h; same = refl }))
  from_fault o (not_above k l h) = inr (inr (inl (record { at_place = k; below = l; fails = h; same = refl })))
  from_fault o (no_start h) =
      inr (inr (inr (inl (⊎_elim (λ e. absurd (h (among_has (rows_in n body) (row (start S)) e))) (λ e. e) (cases_Bool _), refl))))
  from_fault o (is_barred k l h) = inr (inr (inr (inr (inl (record { at_place = k; below = l; fails = ap not h; same = refl })))))
  from_fault o (leaves k l h) =
      inr (inr (inr (inr (inr (record {
        at_place = k;
        below = l;
        fails = ⊎_elim (λ e. absurd (h (stay_to S (rows_in n body) (row_at n body k) e))) (λ e. e) (cases_Bool _);
        same = refl;
      })))))

  pub set_tells : Tells (SetFault S bars n body) (set_vetting S bars n body)
  set_tells = tells_as Tests (SetFault S bars n body) (set_vetting S bars n body) to_fault from_fault tests_tell
