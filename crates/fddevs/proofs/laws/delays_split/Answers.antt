use Rattle.fddevs.proofs.Delays.{delays_split}
use Rattle.fddevs.proofs.laws.delays_split.Goals as goal

pub returns : goal.returns
returns c = delays_split
