use Rattle.std.proofs.Common.{subst}
use Rattle.set_file.specs.Writing.{ReadBack}
use Rattle.set_file.proofs.RoundTrip.{read_back}
use Rattle.set_file.proofs.writing.write.Goals as goal

pub returns-clause-again : goal.returns-clause-again
returns-clause-again c =
    let e = c.write_all.ensures in
    subst (λ rows. ReadBack c.args.n rows c.write_all.result c.write_all.new.out) c.first.ensures
    (read_back c.args.n _ c.args.out.now c.write_all.result _ e.answer e.after e.whole)
