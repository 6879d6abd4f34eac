use Rattle.std.proofs.Common.{◌≡◌, true, sym, subst, rules}
use Rattle.std.proofs.lemmas.List.Sorted.{IsPartitionPoint-from_clause}
use Rattle.wiring.specs.Wires.{ascends, comes_below, Splits}
use Rattle.wiring.proofs.Orders.{below_parts, split_there}
use Rattle.wiring.proofs.wires.Wiring.count_below.Goals as goal

pub returns : goal.returns
returns c =
    let s = c.args.source in
    let o = c.args.output in
    let i = c.partition_point.result in
    let ws = c.wires.result.now in
    let up = subst (λ xs. ascends xs ≡ true) (sym c.wires.ensures) c.args.self.now.ordered in
    subst (λ xs. Splits xs s o i) c.wires.ensures
    (split_there ws s o i c.partition_point.ensures.bound
    (IsPartitionPoint-from_clause (comes_below s o) ws i c.partition_point.ensures.partitioned
    (below_parts ws up s o) (λ a r f h. search rules)))
