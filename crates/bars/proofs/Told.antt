-- The vetting accepts exactly the bars that keep the rules, and tells of the faults of the others.
use Rattle.std.proofs.Common.{◌≡◌, Bool, true, false, not, ltb, ◌⊎◌, ◌↔◌, List, length, is_ok, Ok, Decides, sym, refl, ap, subst, inl, inr, arith}
use Rattle.std.proofs.lemmas.Bool.{not-true, not-false, not_from_true, ltb-true, ltb-false, lt-ltb, le-ltb}
use Rattle.std.proofs.lemmas.Bool.Decides.{not_from_Decides}
use Rattle.fddevs.specs.declared.refusal.Refusal.{Refusal}
use Rattle.fddevs.specs.declared.refusal.Refusal.TheVariants.{BarForm, BarStands, BarsFull}
use Rattle.fddevs.specs.Machine.{Family}
use Rattle.fddevs.specs.Vetting.{NotAfter, Tells, unless}
use Rattle.fddevs.proofs.Vetting.{then_ok, tested, tells_unless, tells_then, tells_as}
use Rattle.bars.specs.Bars.{stands}
use Rattle.bars.specs.Rules.{KeepsBarRules, Fault, ill_formed, stands_already, no_room}
use Rattle.bars.specs.Vetting.{well_formed, vetting}
use Rattle.bars.specs.declared.condition.Condition.{Condition}
use Rattle.bars.proofs.Formed.{formed_decides}
use Rattle.bars.proofs.Standing.{stands_decides}

-- a test that fails where its fact does not hold
fails : {P : Type 0} (b : Bool) → Decides b P → (P → ⊥) → b ≡ false
fails true d h = absurd (h (d.0 refl))
fails false d h = refl

module _ (F : Family) (bars : List (List Condition)) (cs : List Condition) where
  abbrev Faults : Refusal → Type 0
  Faults o =
      ((well_formed F cs ≡ false) × (o ≡ BarForm))
      ⊎ (((not (stands bars cs) ≡ false) × (o ≡ BarStands)) ⊎ ((ltb (length bars) 16 ≡ false) × (o ≡ BarsFull)))

  tells_each : Tells Faults (vetting F bars cs)
  tells_each =
      tells_then _ _ _ _ (tells_unless (well_formed F cs) BarForm)
      (tells_then _ _ _ _ (tells_unless (not (stands bars cs)) BarStands) (tells_unless (ltb (length bars) 16) BarsFull)
      (λ e o h k. rw (h.1, k.1) (record { smallest = omega arith; earliest = λ _. omega arith })))
      first
    where
      first : (e o : Refusal) → (well_formed F cs ≡ false) × (e ≡ BarForm) →
          ((not (stands bars cs) ≡ false) × (o ≡ BarStands)) ⊎ ((ltb (length bars) 16 ≡ false) × (o ≡ BarsFull)) →
          NotAfter e o
      first e o h (inl k) = rw (h.1, k.1) (record { smallest = omega arith; earliest = λ _. omega arith })
      first e o h (inr k) = rw (h.1, k.1) (record { smallest = omega arith; earliest = λ _. omega arith })

  there : (o : Refusal) → Faults o → Fault F bars cs o
  there o (inl h) =
      subst (Fault F bars cs) (sym h.1) (ill_formed (not_from_Decides _ (formed_decides F cs) h.0))
  there o (inr (inl h)) =
      subst (Fault F bars cs) (sym h.1) (stands_already ((stands_decides bars cs).0 (not-false _ h.0)))
  there o (inr (inr h)) = subst (Fault F bars cs) (sym h.1) (no_room (ltb-false _ _ h.0))

  back : (o : Refusal) → Fault F bars cs o → Faults o
  back o (ill_formed h) = inl (fails _ (formed_decides F cs) h, refl)
  back o (stands_already h) = inr (inl (not_from_true _ ((stands_decides bars cs).1 h), refl))
  back o (no_room h) = inr (inr (le-ltb _ _ h, refl))

  pub vetting_tells : Tells (Fault F bars cs) (vetting F bars cs)
  vetting_tells = tells_as Faults (Fault F bars cs) (vetting F bars cs) there back tells_each

  keeps : vetting F bars cs ≡ Ok tt → KeepsBarRules F bars cs
  keeps e =
      let a = then_ok (unless (well_formed F cs) BarForm) _ (ap is_ok e) in
      let b = then_ok (unless (not (stands bars cs)) BarStands) _ a.1 in
      record {
        form = (formed_decides F cs).0 (tested _ BarForm a.0);
        another = not_from_Decides _ (stands_decides bars cs) (not-true _ (tested _ BarStands b.0));
        room = ltb-true _ _ (tested _ BarsFull b.1);
      }

  accepted : KeepsBarRules F bars cs → vetting F bars cs ≡ Ok tt
  accepted k =
      let a = (formed_decides F cs).1 k.form in
      let b = fails (stands bars cs) (stands_decides bars cs) k.another in
      let c = lt-ltb (length bars) 16 k.room in
      rw (a, b, c)

  pub accepts_exactly : (vetting F bars cs ≡ Ok tt) ↔ KeepsBarRules F bars cs
  accepts_exactly = (keeps, accepted)
