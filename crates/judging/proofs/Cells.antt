-- The cells of a row's parts, by their numbers.
use Rattle.std.proofs.Common.{◌≡◌, ℕ, zero, suc, ◌<◌, ◌≤◌, Bool, true, false, eqb, ltb, List, [], ◌∷◌, length, get_or, take, Decides, sym, refl, ap₂, ◌∙◌, arith}
use Rattle.std.proofs.lemmas.Bool.{and_parts, and_from}
use Rattle.std.proofs.lemmas.Bool.Decides.{same_from_decides, Decides-like}
use Rattle.std.proofs.lemmas.List.{length-take-le, get_or-take}
use Rattle.fddevs.specs.declared.part.Cell.{Cell}
use Rattle.fddevs.specs.Machine.{Machine, Family, idle_machine}
use Rattle.fddevs.specs.Scheme.{scheme}
use Rattle.fddevs.specs.Vetting.{all_below}
use Rattle.fddevs.proofs.Vetting.{below_true, true_below}
use Rattle.fddevs.specs.Rows.{Row}
use Rattle.bars.specs.Bars.{is_in}
use Rattle.stepping.specs.Stepping.{no_cell, nth_cell}
use Rattle.stepping.proofs.Made.{count_parts, part_at}
use Rattle.wiring.specs.Meaning.{no_wiring}
use Rattle.proof_rules.specs.Judging.{phases_exist}
use Rattle.proof_rules.specs.Rules.{row_phases}

pub in_there : (n : ℕ) (cs : Row) (p s : ℕ) → p < n → p < length cs →
    is_in (row_phases (take n cs)) p s ≡ eqb (nth_cell cs p).phase s
in_there zero cs p s h l = absurd (omega arith)
in_there (suc n) [] p s h l = absurd (omega arith)
in_there (suc n) (c ∷ cs) zero s h l = refl
in_there (suc n) (c ∷ cs) (suc p) s h l = in_there n cs p s (omega arith) (omega arith)

pub in_past : (n : ℕ) (cs : Row) (p s : ℕ) → n ≤ p → is_in (row_phases (take n cs)) p s ≡ false
in_past zero cs p s h = refl
in_past (suc n) [] p s h = refl
in_past (suc n) (c ∷ cs) zero s h = absurd (omega arith)
in_past (suc n) (c ∷ cs) (suc p) s h = in_past n cs p s (omega arith)

-- each part has its phase
abbrev phased : List Machine → Row → ℕ → Bool
phased ms cs k = ltb (nth_cell cs k).phase (get_or ms k idle_machine).counts.phases

one_more : (m : Machine) (ms : List Machine) (c : Cell) (cs : Row) → ltb c.phase m.counts.phases ≡ true →
    ((k : ℕ) → k < length ms → phased ms cs k ≡ true) → (k : ℕ) → k < suc (length ms) → phased (m ∷ ms) (c ∷ cs) k ≡ true
one_more m ms c cs first rest zero h = first
one_more m ms c cs first rest (suc k) h = rest k (omega arith)

exist_decides : (ms : List Machine) (cs : Row) → length ms ≡ length cs →
    Decides (phases_exist ms cs) ((k : ℕ) → k < length ms → phased ms cs k ≡ true)
exist_decides [] [] e = (λ _ k h. absurd (omega arith), λ _. refl)
exist_decides [] (c ∷ cs) e = absurd (omega arith)
exist_decides (m ∷ ms) [] e = absurd (omega arith)
exist_decides (m ∷ ms) (c ∷ cs) e =
    let r = exist_decides ms cs (omega arith) in (
      (λ t. let p = and_parts (ltb c.phase m.counts.phases) (phases_exist ms cs) t in one_more m ms c cs p.0 (r.0 p.1)),
      λ h. and_from _ _ (h 0 (omega arith)) (r.1 (λ k l. h (suc k) (omega arith))),
    )

module _ (F : Family) (cs : Row) (long : F.count ≤ length cs) where
  abbrev parts : List Machine
  parts = (scheme F no_wiring).parts

  same : (k : ℕ) → k < F.count → phased parts (take F.count cs) k ≡ ltb (nth_cell cs k).phase (F.part k).counts.phases
  same k l =
      ap₂ (λ (c : Cell) (m : Machine). ltb c.phase m.counts.phases) (get_or-take F.count cs k no_cell l) (part_at F no_wiring k l)

  pub exist_below : all_below (λ k. ltb (nth_cell cs k).phase (F.part k).counts.phases) F.count ≡ phases_exist parts (take F.count cs)
  exist_below =
      let n = count_parts F no_wiring in
      let m = length-take-le F.count cs long in
      same_from_decides _ _ (true_below _ F.count, below_true _ F.count)
      (Decides-like _ (λ h k l. sym (same k l) ∙ h k (omega arith)) (λ h k l. let l' : k < F.count = omega arith in same k l' ∙ h k l')
      (exist_decides parts (take F.count cs) (omega arith)))
