-- How the verdict changes. Assumes nothing.
use Rattle.proof_rules.specs.declared.evidence.Evidence.TheVariants.{Set, Witness}
use Rattle.history.specs.declared.verdict.Event.{Event}
use Rattle.history.specs.declared.verdict.Event.TheVariants.{Wired, BarAdded, Accepted}
use Rattle.history.specs.declared.verdict.Verdict.{Verdict}
use Rattle.history.specs.declared.verdict.Verdict.TheVariants.{Open, Clear, Reached}

-- a run that enters a barred state still does so where one bar more stands
abbrev pub with_bar : Verdict → Verdict
with_bar Open = Open
with_bar Clear = Open
with_bar Reached = Reached

abbrev pub verdict_after : Verdict → Event → Verdict
verdict_after v Wired = Open
verdict_after v BarAdded = with_bar v
verdict_after v (Accepted Set) = Clear
verdict_after v (Accepted Witness) = Reached
