use Rattle.std.proofs.Common.{ltb, ap, ◌∙◌}
use Rattle.fddevs.specs.Machine.{when}
use Rattle.set_file.specs.Layout.{stretch}
use Rattle.set_file.proofs.Numbered.{row_there}
use Rattle.set_file.proofs.reader.SetReader.row.Goals as goal

pub returns : goal.returns
returns c =
    let rows = c.args.self.now.rows in
    c.row.ensures
    ∙ ap (λ n. when (ltb c.args.k n) (stretch rows.width rows.body.now c.args.k)) rows.counted
    ∙ row_there rows.width rows.body.now c.args.k
