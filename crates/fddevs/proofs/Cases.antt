-- The worked cases hold.
use Rattle.std.proofs.Common.{ℕ, refl, arith, lit<, lit≤}
use Rattle.fddevs.specs.declared.part.PartMove.TheVariants.{Delay}
use Rattle.fddevs.specs.declared.part.PartState.{PartState}
use Rattle.fddevs.specs.Machine.{Machine}
use Rattle.fddevs.specs.Part.{PartStep, takes, expires, waits, CanDelay}
use Rattle.fddevs.specs.Cases.{KeptLifespans}

delayed : {m : Machine} {c : PartState} {d : ℕ} {t : PartState} → PartStep m c (Delay d) t → CanDelay d c
delayed (waits d h) = h

pub kept_lifespans : KeptLifespans
kept_lifespans = record {
  begins = refl;
  passes = waits 2 (lit≤ tt);
  keeps = takes 0 (lit< tt);
  waits_on = waits 3 (lit≤ tt);
  falls_due = refl;
  goes = expires refl;
  restarts = takes 1 (lit< tt);
  not_due = λ h. omega arith;
  no_further = λ t h. let k = delayed h in omega arith;
}
