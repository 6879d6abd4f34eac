use Rattle.fddevs.proofs.Steps.{rows_agree}
use Rattle.fddevs.proofs.laws.rows_agree.Goals as goal

pub returns : goal.returns
returns c = rows_agree
