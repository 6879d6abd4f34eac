-- The vetting tells of the faults of a file.
use Rattle.std.proofs.Common.{◌≡◌, ℕ, ◌<◌, ◌≤◌, false, ◌⊎◌, List, sym, refl, ap, subst, inl, inr, arith}
use Rattle.fddevs.specs.declared.refusal.Layer.TheVariants.{Scheme}
use Rattle.fddevs.specs.declared.refusal.Refusal.{Refusal}
use Rattle.fddevs.specs.declared.refusal.Refusal.TheVariants.{NotWhole, Version, PartCount}
use Rattle.fddevs.specs.Refusals.{number_of}
use Rattle.fddevs.specs.Vetting.{NotAfter, Tells}
use Rattle.fddevs.proofs.Vetting.{Placed, FaultAt, tells_unless, tells_found, tells_then, tells_as}
use Rattle.scheme_file.specs.File.{head, part_count}
use Rattle.scheme_file.specs.Faults.{Fault, not_whole, other_version, other_count, in_section}
use Rattle.scheme_file.specs.Vetting.{vetting, whole, version_fits, count_fits, passes, refusal, sections_pass}
use Rattle.scheme_file.specs.declared.section.Test.{Test}
use Rattle.scheme_file.specs.declared.section.Test.TheVariants.{Length, Limits, Names}

placed : (t : Test) → Placed (refusal t)
placed Length = record { number = λ j k. refl; place = λ k. refl }
placed Limits = record { number = λ j k. refl; place = λ k. refl }
placed Names = record { number = λ j k. refl; place = λ k. refl }

-- the faults of each finding, in the order of the numbers
module _ (f : List ℕ) where
  abbrev InSection : Test → Refusal → Type 0
  InSection t o = FaultAt (λ k. passes t f (head f k)) (part_count f) (refusal t) o

  sections_tell : (t : Test) → Tells (InSection t) (sections_pass t f)
  sections_tell t = tells_found (λ k. passes t f (head f k)) (refusal t) (placed t) (part_count f)

  abbrev Faults5 : Refusal → Type 0
  Faults5 o = InSection Limits o ⊎ InSection Names o

  abbrev Faults4 : Refusal → Type 0
  Faults4 o = ((count_fits f ≡ false) × (o ≡ PartCount)) ⊎ Faults5 o

  abbrev Faults3 : Refusal → Type 0
  Faults3 o = InSection Length o ⊎ Faults4 o

  abbrev Faults2 : Refusal → Type 0
  Faults2 o = ((version_fits f ≡ false) × (o ≡ Version Scheme)) ⊎ Faults3 o

  abbrev Faults1 : Refusal → Type 0
  Faults1 o = ((whole f ≡ false) × (o ≡ NotWhole Scheme)) ⊎ Faults2 o

  -- their numbers
  at_least_four : (o : Refusal) → Faults4 o → 4 ≤ number_of o
  at_least_four o (inl h) = rw h.1 (omega arith)
  at_least_four o (inr (inl h)) = rw h.same (omega arith)
  at_least_four o (inr (inr h)) = rw h.same (omega arith)

  at_least_three : (o : Refusal) → Faults3 o → 3 ≤ number_of o
  at_least_three o (inl h) = rw h.same (omega arith)
  at_least_three o (inr h) = omega (arith, at_least_four o h)

  at_least_two : (o : Refusal) → Faults2 o → 2 ≤ number_of o
  at_least_two o (inl h) = rw h.1 (omega arith)
  at_least_two o (inr h) = omega (arith, at_least_three o h)

  smaller : (n : ℕ) (e o : Refusal) → number_of e ≡ n → n < number_of o → NotAfter e o
  smaller n e o h k = record { smallest = omega arith; earliest = λ s. absurd (omega arith) }

  first_place : (o : Refusal) → Faults5 o → NotAfter PartCount o
  first_place o h = record { smallest = at_least_four o (inr h); earliest = λ _. omega arith }

  tells : Tells Faults1 (vetting f)
  tells =
      tells_then _ Faults2 _ _ (tells_unless (whole f) (NotWhole Scheme))
      (tells_then _ Faults3 _ _ (tells_unless (version_fits f) (Version Scheme))
      (tells_then (InSection Length) Faults4 _ _ (sections_tell Length)
      (tells_then _ Faults5 _ _ (tells_unless (count_fits f) PartCount)
      (tells_then (InSection Limits) (InSection Names) _ _ (sections_tell Limits) (sections_tell Names)
      (λ e o h k. smaller 4 e o (ap number_of h.same) (rw k.same (omega arith))))
      (λ e o h k. rw h.1 (first_place o k)))
      (λ e o h k. smaller 3 e o (ap number_of h.same) (omega (arith, at_least_four o k))))
      (λ e o h k. smaller 2 e o (ap number_of h.1) (omega (arith, at_least_three o k))))
      (λ e o h k. smaller 1 e o (ap number_of h.1) (omega (arith, at_least_two o k)))

  -- the same by the names of the faults
  section_there : (t : Test) (o : Refusal) → InSection t o → Fault f o
  section_there t o h = subst (Fault f) (sym h.same) (in_section t h.at_place h.below h.fails)

  there : (o : Refusal) → Faults1 o → Fault f o
  there o (inl h) = subst (Fault f) (sym h.1) (not_whole h.0)
  there o (inr (inl h)) = subst (Fault f) (sym h.1) (other_version h.0)
  there o (inr (inr (inl h))) = section_there Length o h
  there o (inr (inr (inr (inl h)))) = subst (Fault f) (sym h.1) (other_count h.0)
  there o (inr (inr (inr (inr (inl h))))) = section_there Limits o h
  there o (inr (inr (inr (inr (inr h))))) = section_there Names o h

  section_back : (t : Test) (k : ℕ) → k < part_count f → passes t f (head f k) ≡ false → Faults1 (refusal t k)
  section_back Length k l e = inr (inr (inl (record { at_place = k; below = l; fails = e; same = refl })))
  section_back Limits k l e = inr (inr (inr (inr (inl (record { at_place = k; below = l; fails = e; same = refl })))))
  section_back Names k l e = inr (inr (inr (inr (inr (record { at_place = k; below = l; fails = e; same = refl })))))

  back : (o : Refusal) → Fault f o → Faults1 o
  back o (not_whole h) = inl (h, refl)
  back o (other_version h) = inr (inl (h, refl))
  back o (other_count h) = inr (inr (inr (inl (h, refl))))
  back o (in_section t k l h) = section_back t k l h

  pub vetting_tells : Tells (Fault f) (vetting f)
  vetting_tells = tells_as Faults1 (Fault f) (vetting f) there back tells
