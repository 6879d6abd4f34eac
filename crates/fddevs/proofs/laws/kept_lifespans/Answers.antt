use Rattle.fddevs.proofs.Cases.{kept_lifespans}
use Rattle.fddevs.proofs.laws.kept_lifespans.Goals as goal

pub returns : goal.returns
returns c = kept_lifespans
