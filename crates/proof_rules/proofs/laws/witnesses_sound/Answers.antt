use Rattle.proof_rules.proofs.laws.witnesses_sound.Goals as goal
use Rattle.proof_rules.proofs.Sound.{witnesses_sound}

pub returns : goal.returns
returns c = witnesses_sound
