use Rattle.std.proofs.Common.{◌-◌, ◌≤◌}
use Rattle.lookup.specs.Searching.{IsNarrowed}
use Rattle.lookup.proofs.finding.Search.upward.Given as goal

abbrev pub invariant-loop-step : goal.invariant-loop-step
invariant-loop-step l =
    (l.low ≤ l.self.rows.count) × (1 ≤ l.step) × (l.step ≤ 18446744073709551614)
    × IsNarrowed l.self.rows l.self.row.now l.low l.self.rows.count

abbrev pub decreases-loop-step : goal.decreases-loop-step
decreases-loop-step l = l.self.rows.count - l.low
