use Rattle.std.proofs.Common.{true, false, Ok, Err, sym, refl, subst, arith, ◌+◌, ◌∙◌, le-ltb, lt-ltb}
use Rattle.book.specs.declared.keeping.Put.TheVariants.{Added}
use Rattle.book.specs.Putting.{PutsRight}
use Rattle.book.proofs.Puts.{in_std, kept_added, right_at}
use Rattle.book.proofs.keeping.Book.put.Goals as goal

pub returns-in-Ok-clause-right : goal.returns-in-Ok-clause-right
returns-in-Ok-clause-right g c =
    right_at g.met.T.Record.total c.args.item _ _ c.args.self.now.kept (Ok _) (sym c.in-Ok.is ∙ c.place.ensures.place) _ refl

pub returns-then-count-list-clause-right : goal.returns-then-count-list-clause-right
returns-then-count-list-clause-right g c =
    right_at g.met.T.Record.total c.args.item _ _ c.args.self.now.kept (Err c.in-Err.at) (sym c.in-Err.is ∙ c.place.ensures.place) false (le-ltb _ _ (omega arith))

pub invariant_of-self-2 : goal.invariant_of-self-2
invariant_of-self-2 g c =
    record { kept = kept_added (in_std g.met.T.Record.total) c.args.item _ _ c.args.self.now.kept c.in-Err.at _ (sym c.in-Err.is ∙ c.place.ensures.place) (omega arith) c.insert.ensures }

pub returns-clause-right : goal.returns-clause-right
returns-clause-right g c =
    subst (λ ys. PutsRight g.T.Record.order c.args.item c.args.self.now.list.now c.args.self.now.count (Ok Added) ys (c.args.self.now.count + 1)) (sym c.insert.ensures)
    (right_at g.met.T.Record.total c.args.item _ _ c.args.self.now.kept (Err c.in-Err.at) (sym c.in-Err.is ∙ c.place.ensures.place) true (lt-ltb _ _ (omega arith)))
