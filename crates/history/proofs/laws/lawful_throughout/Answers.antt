use Rattle.history.proofs.Lawful.{lawful}
use Rattle.history.proofs.laws.lawful_throughout.Goals as goal

pub returns : goal.returns
returns c = lawful
