use Rattle.std.proofs.Common.{◌-◌, ◌≤◌}
use Rattle.lookup.specs.Searching.{IsNarrowed}
use Rattle.lookup.proofs.finding.Search.bisect.Given as goal

abbrev pub invariant-loop-low : goal.invariant-loop-low
invariant-loop-low l =
    (l.low ≤ l.high) × (l.high ≤ l.self.rows.count) × IsNarrowed l.self.rows l.self.row.now l.low l.high

abbrev pub decreases-loop-low : goal.decreases-loop-low
decreases-loop-low l = l.high - l.low
