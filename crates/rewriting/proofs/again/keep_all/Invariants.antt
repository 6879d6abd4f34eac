use Rattle.std.proofs.Common.{◌≡◌, reverse}
use Rattle.std.specs.Iterator.Adapters.{rev_source}
use Rattle.std.specs.Slice.Iter.{iter_rest}
use Rattle.rewriting.specs.Again.{keep_all}
use Rattle.rewriting.proofs.again.keep_all.Given as goal

-- the records that are left give what all of them give
abbrev pub invariant-loop-record : goal.invariant-loop-record
invariant-loop-record l =
    keep_all (reverse (iter_rest (rev_source l.record-iterator))) l.book.list.now l.book.count
    ≡ keep_all (reverse l.records) l.initial.book.list.now l.initial.book.count
