use Rattle.std.proofs.Common.{set, ap, ◌∙◌}
use Rattle.book.proofs.Inserted.{moved_up}
use Rattle.book.proofs.keeping.insert.Goals as goal

pub returns : goal.returns
returns g c =
    ap (λ ys. set ys c.args.at c.args.item) c.copy_within.ensures.after
    ∙ moved_up c.args.list.now c.args.count c.args.at c.args.item c.requires.0 c.requires.1
