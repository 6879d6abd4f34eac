use Rattle.proof_rules.proofs.Judged.{judged_by_the_rules}
use Rattle.proof_rules.proofs.laws.judged_by_the_rules.Goals as goal

pub returns : goal.returns
returns c = judged_by_the_rules
