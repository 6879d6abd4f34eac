use Rattle.std.proofs.Common.{◌≡◌, ◌-◌, ◌≤◌}
use Rattle.book.specs.Place.{place, halving}
use Rattle.book.proofs.keeping.find.Given as goal

-- what is left to halve gives what the whole gives
abbrev pub invariant-loop-low : goal.invariant-loop-low
invariant-loop-low g l =
    let cmp = g.T.Record.order in
    (l.low ≤ l.high) × (l.high ≤ l.count)
    × (place cmp l.item l.list l.count ≡ halving cmp l.item l.list l.count l.low l.high)

abbrev pub decreases-loop-low : goal.decreases-loop-low
decreases-loop-low g l = l.high - l.low
