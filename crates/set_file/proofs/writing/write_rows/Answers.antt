use Rattle.std.proofs.Common.{◌≡◌, ◌+◌, ◌-◌, ◌*◌, [], length, refl, ◌∙◌, arith, length-drop, length-take}
use Rattle.set_file.proofs.Numbered.{one_more}
use Rattle.set_file.proofs.Written.{row_more}
use Rattle.set_file.proofs.writing.write_rows.Goals as goal

pub loop-k-preserved : goal.loop-k-preserved
loop-k-preserved c =
    let i = c.loop-k.k in
    let w = c.args.width in
    let o = one_more i w (length c.args.rows.now) c.loop-k-test.true in
    let k : 6 + i * w + w - (6 + i * w) ≡ w = omega arith in
    let z : length c.copy_from_slice.new.self ≡ w = c.copy_from_slice.ensures.len ∙ simp (length-take, length-drop) (omega arith) in
    row_more c.args.out.now c.args.rows.now w (omega arith) i (6 + i * w) _ _ record { bytes = [] } c.loop-k.out c.copy_from_slice.new.self c.loop-k-test.true refl k c.loop-k.invariant.0 c.loop-k.invariant.1 c.copy_from_slice.ensures.after (omega arith) z
