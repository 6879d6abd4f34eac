-- The vetting tells of the faults of timer settings.
use Rattle.std.proofs.Common.{◌≡◌, false, ◌⊎◌, List, length, get_or, sym, refl, subst, inl, inr, arith}
use Rattle.fddevs.specs.declared.refusal.Refusal.{Refusal}
use Rattle.fddevs.specs.declared.refusal.Refusal.TheVariants.{TimerCount, TimerTime}
use Rattle.fddevs.specs.Vetting.{NotAfter, Tells}
use Rattle.fddevs.proofs.Vetting.{FaultAt, tells_unless, tells_found, tells_then, tells_as}
use Rattle.timers.specs.Faults.{Fault, other_count, long_time}
use Rattle.timers.specs.Timers.{short, count_fits, first_long, vetting, no_setting}
use Rattle.timers.specs.declared.setting.Setting.{Setting}

module _ (ts : List Setting) where
  abbrev Long : Refusal → Type 0
  Long o = FaultAt (λ k. short (get_or ts k no_setting)) (length ts) TimerTime o

  abbrev Faults : Refusal → Type 0
  Faults o = ((count_fits ts ≡ false) × (o ≡ TimerCount)) ⊎ Long o

  -- the count has the number of the times, and the first place
  count_first : (o : Refusal) → Long o → NotAfter TimerCount o
  count_first o h = rw h.same (record { smallest = omega arith; earliest = λ _. omega arith })

  tells : Tells Faults (vetting ts)
  tells =
      tells_then _ Long _ (first_long ts) (tells_unless (count_fits ts) TimerCount)
      (tells_found (λ k. short (get_or ts k no_setting)) TimerTime
      (record { number = λ j k. refl; place = λ k. refl }) (length ts))
      (λ e o h k. rw h.1 (count_first o k))

  there : (o : Refusal) → Faults o → Fault ts o
  there o (inl h) = subst (Fault ts) (sym h.1) (other_count h.0)
  there o (inr h) = subst (Fault ts) (sym h.same) (long_time h.at_place h.below h.fails)

  back : (o : Refusal) → Fault ts o → Faults o
  back o (other_count h) = inl (h, refl)
  back o (long_time k l h) = inr (record { at_place = k; below = l; fails = h; same = refl })

  pub vetting_tells : Tells (Fault ts) (vetting ts)
  vetting_tells = tells_as Faults (Fault ts) (vetting ts) there back tells
