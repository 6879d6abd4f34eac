-- What the findings on a wiring file say.
use Rattle.std.proofs.Common.{◌≡◌, ℕ, zero, suc, ◌+◌, ◌<◌, ◌≤◌, Bool, true, false, List, length, is_ok, Some, None, sym, ap, ◌∙◌, ⊎_elim, arith}
use Rattle.std.proofs.lemmas.Bool.{cases_Bool, cases_lt}
use Rattle.fddevs.specs.declared.refusal.Layer.TheVariants.{Wiring as in_wiring}
use Rattle.fddevs.specs.declared.refusal.Refusal.TheVariants.{NotWhole, Version, WiringCounts}
use Rattle.fddevs.specs.Machine.{Family}
use Rattle.fddevs.specs.Scheme.{Wiring}
use Rattle.fddevs.specs.Vetting.{then, unless, seek}
use Rattle.fddevs.proofs.Vetting.{none_first, first_none, below_true, found_none, then_ok, tested}
use Rattle.wiring.specs.File.{is_whole, is_version_one, is_within}
use Rattle.wiring.specs.Wires.{ascends, in_order, is_apart, all_apart}
use Rattle.wiring.specs.Reading.{keeps, breach, kept, head_vetting, wires_vetting}
use Rattle.wiring.specs.declared.rule.Rule.{Rule}
use Rattle.wiring.specs.declared.rule.Rule.TheVariants.{Order, Apart, Names}

-- of the n numbers from a on, k is the first that fails the test
pub record FirstAt (t : ℕ → Bool) (a n k : ℕ) : Type 0 where
  pub from : a ≤ k
  pub below : k < a + n
  pub fails : t k ≡ false
  pub ahead : (j : ℕ) → a ≤ j → j < k → t j ≡ true

pub some_first : (t : ℕ → Bool) (n a k : ℕ) → seek t a n ≡ Some k → FirstAt t a n k
some_first t zero a k e = let z : ◌≡◌ {A = ℕ} 0 1 = cc in absurd (omega arith)
some_first t (suc n) a k e =
    ⊎_elim
    (λ y.
    let h = some_first t n (a + 1) k (rw y at e) in
    record {
      from = omega (arith, h.from);
      below = omega (arith, h.below);
      fails = h.fails;
      ahead = λ j p q.
          ⊎_elim (λ l. h.ahead j (omega arith) q) (λ g. let z : j ≡ a = omega arith in ap t z ∙ y) (cases_lt a j);
    })
    (λ y.
    let x = rw y at e in
    let z : a ≡ k = cc in
    record {
      from = omega arith;
      below = omega arith;
      fails = sym (ap t z) ∙ y;
      ahead = λ j p q. absurd (omega arith);
    })
    (cases_Bool (t a))

module _ (r : Rule) (F : Family) (W : Wiring) where
  pub none_found : ((j : ℕ) → j < length W.wires → keeps r F W j ≡ true) →
      None ≡ seek (keeps r F W) 0 (length W.wires)
  none_found all = sym (first_none (keeps r F W) (length W.wires) all)

  pub kept_each : is_ok (kept r F W) ≡ true → (k : ℕ) → k < length W.wires → keeps r F W k ≡ true
  kept_each e = none_first (keeps r F W) (length W.wires) (found_none (breach r) _ e)

pub head_passed : (f : List ℕ) → is_ok (head_vetting f) ≡ true →
    (is_whole f ≡ true) × (is_version_one f ≡ true) × (is_within f ≡ true)
head_passed f ok =
    let a = then_ok (unless (is_whole f) (NotWhole in_wiring)) _ ok in
    let b = then_ok (unless (is_version_one f) (Version in_wiring)) (unless (is_within f) WiringCounts) a.1 in
    (tested _ _ a.0, tested _ _ b.0, tested _ _ b.1)

module _ (F : Family) (W : Wiring) where
  pub kept_ascends : is_ok (kept Order F W) ≡ true → ascends W.wires ≡ true
  kept_ascends e = below_true (in_order W.wires) (length W.wires) (kept_each Order F W e)

  module _ (ok : is_ok (wires_vetting F W) ≡ true) where
    after_order : is_ok (then (kept Apart F W) (kept Names F W)) ≡ true
    after_order = (then_ok (kept Order F W) (then (kept Apart F W) (kept Names F W)) ok).1

    pub vetted : (r : Rule) → is_ok (kept r F W) ≡ true
    vetted Order = (then_ok (kept Order F W) _ ok).0
    vetted Apart = (then_ok (kept Apart F W) (kept Names F W) after_order).0
    vetted Names = (then_ok (kept Apart F W) (kept Names F W) after_order).1

    pub vetted_ascends : ascends W.wires ≡ true
    vetted_ascends = kept_ascends (vetted Order)

    pub vetted_apart : all_apart W.wires ≡ true
    vetted_apart =
        below_true (is_apart W.wires) (length W.wires) (kept_each Apart F W (vetted Apart))
