-- Which files are accepted.
use Rattle.std.proofs.Common.{◌≡◌, ℕ, zero, suc, ◌+◌, ◌-◌, ◌*◌, ◌/◌, ◌%◌, ◌<◌, ◌≤◌, true, not, eqb, leb, List, length, get_or, is_ok, Ok, Err, sym, refl, ap, ◌∙◌, subst, sub-one, arith}
use Rattle.std.specs.List.{AllByRecursion}
use Rattle.std.proofs.ByRecursion.{All-get_or, All-from_get_or}
use Rattle.std.proofs.lemmas.Bool.{and_parts, and_from, or_right, eqb-true, eq-eqb, leb-true, le-leb}
use Rattle.std.proofs.lemmas.Bool.Decides.{nat_tests}
use Rattle.fddevs.specs.declared.scheme.Wire.{Wire}
use Rattle.fddevs.specs.Machine.{Family}
use Rattle.fddevs.specs.Scheme.{Wiring}
use Rattle.fddevs.specs.Vetting.{Vetted, then, found}
use Rattle.fddevs.proofs.Vetting.{below_true, true_below, then_ok}
use Rattle.fddevs.specs.Bytes.{two_at}
use Rattle.wiring.specs.File.{wire_count, held, is_whole, is_version_one, is_within}
use Rattle.wiring.specs.Laws.{size, file_of, EndsExist, SameStart, KeepsWiringRules, AcceptsExactly}
use Rattle.wiring.specs.Reading.{has_ends, keeps, breach, kept, head_vetting, wires_vetting, vetting, accepted, reading}
use Rattle.wiring.specs.Wires.{bytes, before, no_wire, nth, same_start}
use Rattle.wiring.specs.declared.rule.Rule.{Rule}
use Rattle.wiring.specs.declared.rule.Rule.TheVariants.{Order, Apart, Names}
use Rattle.wiring.proofs.Apart.{later}
use Rattle.wiring.proofs.Kept.{none_found, kept_each, head_passed, vetted, vetted_ascends}
use Rattle.wiring.proofs.Laid.{heads, laid_held, count_held, length_laid, laid_one}

module _ (F : Family) (W : Wiring) (w : Wire) where
  ends_forth : has_ends F W w ≡ true → EndsExist F W w
  ends_forth e = record {
    not_itself = λ h. grind (arith, nat_tests);
    outer_input = λ h. grind (arith, nat_tests);
    part_output = λ h. (grind (arith, nat_tests), grind (arith, nat_tests));
    outer_output = λ h. grind (arith, nat_tests);
    part_input = λ h. (grind (arith, nat_tests), grind (arith, nat_tests));
  }

  ends_back : EndsExist F W w → has_ends F W w ≡ true
  ends_back h =
      let a = h.not_itself in
      let b = h.outer_input in
      let c = h.part_output in
      let d = h.outer_output in
      let e = h.part_input in
      grind (arith, nat_tests)

start_forth : (v w : Wire) → not (same_start v w) ≡ true → SameStart v w → ⊥
start_forth v w e h = let a = h.source in let b = h.output in let c = h.target in grind (arith, nat_tests)

start_back : (v w : Wire) → (SameStart v w → ⊥) → not (same_start v w) ≡ true
start_back v w h =
    let g : v.source ≡ w.source → v.output ≡ w.output → v.target ≡ w.target → ⊥ = λ a b c. h (record {
      source = a;
      output = b;
      target = c;
    }) in
    grind (arith, nat_tests)

-- a file that ends where its length says
record Whole (f : List ℕ) : Type 0 where
  pub long : 5 ≤ length f
  pub rest : length f ≡ 3 + two_at f 1
  pub exact : 5 + 4 * wire_count f ≡ length f

whole : (f : List ℕ) → is_whole f ≡ true → Whole f
whole f e =
    let a = and_parts (leb 5 (length f)) _ e in
    let b = and_parts (eqb (length f) (3 + two_at f 1)) (eqb ((length f - 5) % 4) 0) a.1 in
    let long = leb-true 5 (length f) a.0 in
    let four = eqb-true ((length f - 5) % 4) 0 b.1 in
    record { long = long; rest = eqb-true _ _ b.0; exact = omega arith }

module _ (F : Family) (f : List ℕ) (small : AllByRecursion (λ b. b < 256) f) (ok : is_ok (vetting F f) ≡ true) where
  both : (is_ok (head_vetting f) ≡ true) × (is_ok (wires_vetting F (held f)) ≡ true)
  both = then_ok (head_vetting f) (wires_vetting F (held f)) ok

  its_head : (is_whole f ≡ true) × (is_version_one f ≡ true) × (is_within f ≡ true)
  its_head = head_passed f both.0

  its_file : f ≡ file_of (held f)
  its_file =
      let h = whole f its_head.0 in
      let long = h.long in
      let rest = h.rest in
      let exact = h.exact in
      let low : get_or f 2 0 < 256 = All-get_or (λ b. b < 256) f 2 0 (omega arith) small in
      let count = count_held f in
      let a : get_or f 0 0 ≡ 1 = eqb-true _ _ its_head.1 in
      let b : get_or f 1 0 ≡ size (held f) / 256 = omega arith in
      let c : get_or f 2 0 ≡ size (held f) % 256 = omega arith in
      let d = laid_held f exact in
      let e = heads f long in
      cc

  its_rules : KeepsWiringRules F (held f)
  its_rules =
      let a = and_parts _ _ its_head.2 in
      let b = and_parts _ _ a.1 in
      let ok = vetted F (held f) both.1 in
      let ws = (held f).wires in
      record {
        few_inputs = leb-true _ _ a.0;
        few_outputs = leb-true _ _ b.0;
        few_wires = omega (arith, count_held f, leb-true _ _ b.1);
        ascending = λ j k h l. later ws (vetted_ascends F (held f) both.1) k j h l;
        apart = λ j k h l.
            start_forth (nth ws j) (nth ws k)
            (true_below (λ i. not (same_start (nth ws i) (nth ws k))) k (kept_each Apart F (held f) (ok Apart) k l) j h);
        ends =
            All-from_get_or (EndsExist F (held f)) ws no_wire
            (λ k l. ends_forth F (held f) (nth ws k) (kept_each Names F (held f) (ok Names) k l));
      }

pub accepted_ok : (v : Vetted) (U W : Wiring) → accepted v U ≡ Ok W → (is_ok v ≡ true) × (U ≡ W)
accepted_ok (Ok x) U W e = (refl, cc)
accepted_ok (Err x) U W e = let z : ◌≡◌ {A = ℕ} 0 1 = cc in absurd (omega arith)

forth : (F : Family) (f : List ℕ) (W : Wiring) → AllByRecursion (λ b. b < 256) f → reading F f ≡ Ok W →
    (f ≡ file_of W) × KeepsWiringRules F W
forth F f W small e =
    let p = accepted_ok (vetting F f) (held f) W e in
    subst (λ U. (f ≡ file_of U) × KeepsWiringRules F U) p.1 (its_file F f small p.0, its_rules F f small p.0)

module _ (F : Family) (W : Wiring) (h : KeepsWiringRules F W) where
  every : (r : Rule) (k : ℕ) → k < length W.wires → keeps r F W k ≡ true
  every Order zero l = refl
  every Order (suc k) l =
      let e : before (bytes (nth W.wires (suc k - 1))) (bytes (nth W.wires (suc k))) ≡ true =
      rw sub-one (h.ascending k (suc k) (omega arith) l) in
      or_right (eqb (suc k) 0) _ e
  every Apart k l = below_true _ k (λ j g. start_back _ _ (h.apart j k g l))
  every Names k l = ends_back F W _ (All-get_or (EndsExist F W) W.wires k no_wire l h.ends)

  all_kept : (r : Rule) → kept r F W ≡ Ok tt
  all_kept r = ap (found (breach r)) (sym (none_found r F W (every r)))

  wires_pass : wires_vetting F W ≡ Ok tt
  wires_pass =
      ap (λ v. then v (then (kept Apart F W) (kept Names F W))) (all_kept Order)
      ∙ ap (λ v. then v (kept Names F W)) (all_kept Apart) ∙ all_kept Names

  laid_whole : is_whole (file_of W) ≡ true
  laid_whole =
      let n = length_laid W.wires in
      let f = file_of W in
      let a : 5 ≤ length f = omega arith in
      let b : length f ≡ 3 + two_at f 1 = omega arith in
      let c : (length f - 5) % 4 ≡ 0 = omega arith in
      and_from _ _ (le-leb 5 (length f) a)
      (and_from _ _ (eq-eqb (length f) (3 + two_at f 1) b) (eq-eqb ((length f - 5) % 4) 0 c))

  same_wires : (held (file_of W)).wires ≡ W.wires
  same_wires = laid_one (held (file_of W)).wires W.wires (laid_held (file_of W) (whole (file_of W) laid_whole).exact)

  same : held (file_of W) ≡ W
  same = λ i. record {
    outer_inputs = W.outer_inputs;
    outer_outputs = W.outer_outputs;
    wires = same_wires i;
  }

  head_pass : head_vetting (file_of W) ≡ Ok tt
  head_pass =
      let n = length_laid W.wires in
      let m = h.few_wires in
      let a : wire_count (file_of W) ≤ 256 = omega arith in
      let within : is_within (file_of W) ≡ true =
      and_from _ _ (le-leb _ _ h.few_inputs)
      (and_from _ _ (le-leb _ _ h.few_outputs) (le-leb _ _ a)) in
      rw (laid_whole, within)

  back : reading F (file_of W) ≡ Ok W
  back =
      let f = file_of W in
      ap (λ v. accepted (then v (wires_vetting F (held f))) (held f)) head_pass
      ∙ ap (λ U. accepted (wires_vetting F U) U) same ∙ ap (λ v. accepted v W) wires_pass

pub accepts_exactly : AcceptsExactly
accepts_exactly F f W small =
    (forth F f W small, λ p. subst (λ g. reading F g ≡ Ok W) (sym p.0) (back F W p.1))
