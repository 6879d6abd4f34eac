use Rattle.wiring.proofs.Refused.{refuses_smallest}
use Rattle.wiring.proofs.laws.refuses_smallest.Goals as goal

pub returns : goal.returns
returns c = refuses_smallest
