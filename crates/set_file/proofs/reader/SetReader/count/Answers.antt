use Rattle.std.proofs.Common.{sym, ◌∙◌}
use Rattle.std.proofs.lemmas.List.FromFn.{length-map-range_with_len}
use Rattle.set_file.specs.Layout.{stretch}
use Rattle.set_file.proofs.reader.SetReader.count.Goals as goal

pub returns : goal.returns
returns c =
    let rows = c.args.self.now.rows in
    c.count.ensures ∙ rows.counted ∙ sym (length-map-range_with_len (stretch rows.width rows.body.now) 0 _)
