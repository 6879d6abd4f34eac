-- The families of these banks are within the limits.
use Rattle.std.specs.Prelude.{◌≡◌, ◌-◌, true, Some, None, Option, nat_lt}
use Rattle.std.proofs.Common.{arith, rules}
use Rattle.std.proofs.lemmas.Bool.{cond_both, leb-true, ltb-true, ltb-false}
use Rattle.fddevs.specs.Machine.{Family, WithinLimits, PartWithin, idle_family}
use Rattle.bank.specs.OrIdle.{or_idle}
use Rattle.bank.specs.Pair.{joined, few, pair_family}

pub idle_within : WithinLimits idle_family
idle_within = search rules

pub or_idle_within : {B : Type 0} (family : B → Family) → ((b : B) → WithinLimits (family b)) →
    (o : Option B) → WithinLimits (or_idle family o)
or_idle_within family h (Some b) = h b
or_idle_within family h None = idle_within

module _ (F G : Family) (f : WithinLimits F) (g : WithinLimits G) where
  joined_within : few F G ≡ true → WithinLimits (joined F G)
  joined_within e = record {
    some = omega (arith, f.some);
    few = leb-true _ _ e;
    part = λ p h. cond_both (nat_lt p F.count) (F.part p) (G.part (p - F.count)) PartWithin
        (λ t. f.part p (ltb-true _ _ t))
        (λ t. g.part (p - F.count) (omega (arith, ltb-false p F.count t)));
  }

  pub pair_within : WithinLimits (pair_family F G)
  pair_within = cond_both (few F G) (joined F G) F WithinLimits joined_within (λ _. f)
