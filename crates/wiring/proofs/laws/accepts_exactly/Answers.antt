use Rattle.wiring.proofs.Accepted.{accepts_exactly}
use Rattle.wiring.proofs.laws.accepts_exactly.Goals as goal

pub returns : goal.returns
returns c = accepts_exactly
