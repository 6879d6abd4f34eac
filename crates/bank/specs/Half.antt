-- Which of two joined families has a part. Assumes nothing.
use Rattle.std.specs.Prelude.{ℕ, ◌-◌, cond, not, ◌||◌, nat_lt}
use Rattle.fddevs.specs.Machine.{Family}
use Rattle.bank.specs.Pair.{few}
use Rattle.bank.specs.declared.pair.Half.{Half}
use Rattle.bank.specs.declared.pair.Half.TheVariants.{First, Second}

abbrev pub half_of : Family → Family → ℕ → Half
half_of F G p = cond (nat_lt p F.count || not (few F G)) (First p) (Second (p - F.count))
