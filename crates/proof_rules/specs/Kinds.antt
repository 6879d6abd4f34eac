-- What a proof file is for, by the byte of its kind. Assumes nothing.
use Rattle.std.specs.Prelude.{ℕ, cond, Ok, Err, Result, ◌==◌}
use Rattle.proof_rules.specs.declared.evidence.Evidence.{Evidence}
use Rattle.proof_rules.specs.declared.evidence.Evidence.TheVariants.{Set, Witness}
use Rattle.proof_rules.specs.declared.evidence.UnknownKind.{UnknownKind}

-- 01 is a set, 02 a witness
abbrev pub kind_of : ℕ → Result Evidence UnknownKind
kind_of b = cond (b == 1) (Ok Set) (cond (b == 2) (Ok Witness) (Err record {}))
