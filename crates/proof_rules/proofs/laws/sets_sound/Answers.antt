use Rattle.proof_rules.proofs.laws.sets_sound.Goals as goal
use Rattle.proof_rules.proofs.Sound.{sets_sound}

pub returns : goal.returns
returns c = sets_sound
