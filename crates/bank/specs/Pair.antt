-- Two families joined. Assumes nothing.
use Rattle.std.specs.Prelude.{◌+◌, ◌-◌, Bool, cond, nat_le, nat_lt}
use Rattle.fddevs.specs.Machine.{Family}
use Rattle.fddevs.specs.Vetting.{Vetted, unless}
use Rattle.fddevs.specs.declared.refusal.Refusal.TheVariants.{PairCount}

-- the second family's numbers follow the first's
abbrev pub joined : Family → Family → Family
joined F G = record {
  count = F.count + G.count;
  part = λ p. cond (nat_lt p F.count) (F.part p) (G.part (p - F.count));
}

abbrev pub few : Family → Family → Bool
few F G = nat_le (F.count + G.count) 16

abbrev pub pair_vetting : Family → Family → Vetted
pair_vetting F G = unless (few F G) PairCount

-- made against its vetting, a pair is its first bank
abbrev pub pair_family : Family → Family → Family
pair_family F G = cond (few F G) (joined F G) F
