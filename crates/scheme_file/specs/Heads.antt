-- Where the sections of a file stand, and what its tests tell of them.
use Rattle.std.specs.Prelude.{◌≡◌, ℕ, zero, suc, ◌+◌, ◌<◌, ◌≤◌, true, false, List, length, is_ok, ◌==◌}
use Rattle.std.proofs.Common.{⊎_elim, arith, le_refl, add-one}
use Rattle.std.proofs.lemmas.Bool.{eqb-true, ne_eqb, cases_lt}
use Rattle.fddevs.proofs.Vetting.{none_first, found_none}
use Rattle.fddevs.specs.Bytes.{two_at}
use Rattle.scheme_file.specs.File.{head, part_count}
use Rattle.scheme_file.specs.Vetting.{whole, right_length, refusal, sections_pass, Ready, Measured}
use Rattle.scheme_file.specs.declared.section.Test.{Test}
use Rattle.scheme_file.specs.declared.section.Test.TheVariants.{Length, Limits, Names}

module _ (f : List ℕ) where
  pub head_more : (k h : ℕ) → h ≡ head f k → head f (k + 1) ≡ h + 2 + two_at f h
  head_more k h e = rw (add-one, e)

  pub head_up : (n k : ℕ) → k ≤ n → head f k ≤ head f n
  head_up zero k h = let e : k ≡ 0 = omega arith in rw e (le_refl _)
  head_up (suc n) k h =
      ⊎_elim (λ l. omega (arith, head_up n k (omega arith))) (λ g. let e : k ≡ suc n = omega arith in rw e (le_refl _))
      (cases_lt k (suc n))

  pub past_end : (k n : ℕ) → k ≤ n → length f < head f k → (head f n == length f) ≡ false
  past_end k n h l = ne_eqb _ _ (λ e. omega (arith, head_up n k h))

  -- each section lies within the file
  pub inside : whole f ≡ true → (k h : ℕ) → h ≡ head f k → k < part_count f → h + 2 + two_at f h ≤ length f
  inside e k h p l = rw p (omega (arith, eqb-true _ _ e, head_up (part_count f) (suc k) l))

  pub not_short : whole f ≡ true → 2 ≤ length f
  not_short e = omega (arith, eqb-true _ _ e, head_up (part_count f) 0 (omega arith))

  right_lengths : is_ok (sections_pass Length f) ≡ true → (k : ℕ) → k < part_count f → right_length f (head f k) ≡ true
  right_lengths e = none_first (λ k. right_length f (head f k)) (part_count f) (found_none (refusal Length) _ e)

  pub measured : (t : Test) → Ready t f → (k h : ℕ) → h ≡ head f k → k < part_count f → Measured t f h
  measured Length r k h p l = tt
  measured Limits r k h p l = rw p (right_lengths (rw r) k l)
  measured Names r k h p l = rw p (right_lengths (rw r) k l)
