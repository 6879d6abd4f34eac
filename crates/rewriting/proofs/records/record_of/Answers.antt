use Rattle.std.proofs.Common.{◌++◌, ◌∙◌}
use Rattle.rewriting.proofs.Padding.{take_least, zeros_left}
use Rattle.rewriting.proofs.records.record_of.Goals as goal

pub returns : goal.returns
returns c =
    let bytes = c.args.bytes.now in
    let t = c.copy_from_slice.ensures.after ∙ take_least bytes c.min-size.result 48 c.min-size.ensures in
    let z = zeros_left bytes c.min-size.result 48 c.min-size.ensures in
    λ i. record { bytes = t i ++ z i }
