use Rattle.std.proofs.Common.{◌≡◌, IfOk, subst, vec_items, arith, rules, tests}
use Rattle.std.specs.List.{slice_get}
use Rattle.std.specs.Option.{option_map}
use Rattle.std.proofs.lemmas.Iterator.{YieldsList-from_range, items_from_collect}
use Rattle.std.proofs.lemmas.Iterator.Consumers.{YieldsList-from_filter_map}
use Rattle.set_file.specs.Held.{held}
use Rattle.rewriting.specs.Records.{row_of}
use Rattle.rewriting.proofs.Padding.{all_rows}
use Rattle.rewriting.proofs.records.records.Goals as goal

pub returns : goal.returns
returns c =
    let set = c.args.set.now in
    let n = c.count.result in
    let all = items_from_collect _ c.collect.ensures.ran (YieldsList-from_filter_map _ (λ k. option_map row_of (slice_get (held set) k)) (YieldsList-from_range 0 n n c.filter_map.ensures.source (omega arith)) c.filter_map.ensures.closure (λ x r q k. search (rules, tests))) in
    subst (λ items. IfOk c.collect.result (λ v. vec_items v ≡ items)) (all_rows (held set) n c.count.ensures) all
