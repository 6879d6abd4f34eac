use Rattle.worked_cases.proofs.Told.{cases_hold}
use Rattle.worked_cases.proofs.cases.cases_hold.Goals as goal

pub returns : goal.returns
returns c = cases_hold
