-- A bar is well formed exactly where the test says so.
use Rattle.std.proofs.Common.{◌≡◌, ℕ, zero, suc, ◌-◌, ◌<◌, true, ◌||◌, eqb, ltb, leb, List, length, Decides, refl, ⊎_elim, sub-one, arith}
use Rattle.std.proofs.ByRecursion.{All-get_or, All-from_get_or}
use Rattle.std.proofs.lemmas.Bool.{and_parts, and_from, or_right, cases_lt, leb-true, le-leb, lt-ltb, ltb-true}
use Rattle.std.proofs.lemmas.Bool.Decides.{nat_tests}
use Rattle.fddevs.specs.Machine.{Family}
use Rattle.fddevs.specs.Vetting.{all_below}
use Rattle.fddevs.proofs.Vetting.{below_true, true_below}
use Rattle.bars.specs.Rules.{Exists, WellFormed}
use Rattle.bars.specs.Vetting.{no_condition, nth, in_order, fits, well_formed}
use Rattle.bars.specs.declared.condition.Condition.{Condition}

module _ (F : Family) (cs : List Condition) where
  module _ (h : (k : ℕ) → k < length cs → fits F cs k ≡ true) where
    next : (k : ℕ) → suc k < length cs → (nth cs k).part < (nth cs (suc k)).part
    next k l =
        let a = and_parts (in_order cs (suc k)) _ (h (suc k) l) in
        let b : (eqb (suc k) 0 || ltb (nth cs k).part (nth cs (suc k)).part) ≡ true = rw sub-one at a.0 in
        grind (arith, nat_tests)

    later : (k j : ℕ) → j < k → k < length cs → (nth cs j).part < (nth cs k).part
    later zero j l m = absurd (omega arith)
    later (suc k) j l m =
        ⊎_elim
        (λ g. let a = later k j g (omega arith) in let b = next k m in omega arith)
        (λ g. let e : j ≡ k = omega arith in rw e (next k m)) (cases_lt j k)

    its_exist : (k : ℕ) → k < length cs → Exists F (nth cs k)
    its_exist k l =
        let a = and_parts (in_order cs k) _ (h k l) in
        let b = and_parts (ltb (nth cs k).part F.count) _ a.1 in
        record { part_exists = ltb-true _ _ b.0; phase_exists = ltb-true _ _ b.1 }

  forth : well_formed F cs ≡ true → WellFormed F cs
  forth e =
      let a = and_parts (leb 1 (length cs)) _ e in
      let b = and_parts (leb (length cs) 4) (all_below (fits F cs) (length cs)) a.1 in
      let all = true_below (fits F cs) (length cs) b.1 in
      record {
        some = leb-true _ _ a.0;
        few = leb-true _ _ b.0;
        ascending = λ j k l m. later all k j l m;
        exist = All-from_get_or (Exists F) cs no_condition (its_exist all);
      }

  module _ (w : WellFormed F cs) where
    ordered : (k : ℕ) → k < length cs → in_order cs k ≡ true
    ordered zero l = refl
    ordered (suc k) l =
        let e : ltb (nth cs (suc k - 1)).part (nth cs (suc k)).part ≡ true =
        rw sub-one (lt-ltb _ _ (w.ascending k (suc k) (omega arith) l)) in
        or_right (eqb (suc k) 0) _ e

    each : (k : ℕ) → k < length cs → fits F cs k ≡ true
    each k l =
        let x = All-get_or (Exists F) cs k no_condition l w.exist in
        and_from _ _ (ordered k l) (and_from _ _ (lt-ltb _ _ x.part_exists) (lt-ltb _ _ x.phase_exists))

    back : well_formed F cs ≡ true
    back =
        and_from _ _ (le-leb _ _ w.some)
        (and_from _ _ (le-leb _ _ w.few) (below_true (fits F cs) (length cs) each))

  pub formed_decides : Decides (well_formed F cs) (WellFormed F cs)
  formed_decides = (forth, back)
