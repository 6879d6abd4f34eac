use Rattle.std.proofs.Common.{reverse, sym, ap, ◌∙◌}
use Rattle.std.proofs.lemmas.List.{nil_from_length}
use Rattle.std.proofs.lemmas.Result.{err_from_is_err_and}
use Rattle.std.specs.Iterator.Adapters.{rev_source}
use Rattle.std.specs.Slice.Iter.{iter_rest}
use Rattle.rewriting.specs.Again.{keep_all}
use Rattle.rewriting.proofs.Keeping.{last_first, goes_on, is_refused}
use Rattle.rewriting.proofs.again.keep_all.Goals as goal

pub loop-record-init : goal.loop-record-init
loop-record-init c =
    let book = c.args.book.now in
    ap (λ xs. keep_all (reverse xs) book.list.now book.count)
    (ap (λ r. iter_rest (rev_source r)) c.into_iter-record-iterator.ensures.into_iter_gives ∙ ap iter_rest c.rev-record-items.ensures.source ∙ c.iter.ensures.rest)

pub loop-record-preserved : goal.loop-record-preserved
loop-record-preserved c =
    let book = c.loop-record.book in
    let f = last_first _ _ _ c.in-Some.ensures.steps in
    let g = goes_on _ (reverse (iter_rest (rev_source c.next.new.self))) _ _ _ _ _ _ c.put.ensures.puts c.in_ok-put.was in
    sym g ∙ ap (λ l. keep_all l book.list.now book.count) (sym f) ∙ c.loop-record.invariant

pub returns-in_err-put : goal.returns-in_err-put
returns-in_err-put c =
    let book = c.loop-record.book in
    let f = last_first _ _ _ c.in-Some.ensures.steps in
    let g = is_refused _ (reverse (iter_rest (rev_source c.next.new.self))) _ _ _ _ _ _ c.put.ensures.puts c.in_err-put.was in
    let q = err_from_is_err_and c.from_residual.result c.from_residual.ensures.1 in
    rw (q.1, q.2)
    (sym g ∙ ap (λ l. keep_all l book.list.now book.count) (sym f) ∙ c.loop-record.invariant)

pub returns : goal.returns
returns c =
    let book = c.loop-record.book in
    sym (ap (λ xs. keep_all (reverse xs) book.list.now book.count) (nil_from_length _ c.in-None.ensures.steps.0)) ∙ c.loop-record.invariant
