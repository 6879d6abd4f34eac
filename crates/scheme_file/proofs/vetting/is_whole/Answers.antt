use Rattle.std.proofs.Common.{◌+◌, sym, arith}
use Rattle.scheme_file.specs.Heads.{head_more, past_end}
use Rattle.scheme_file.proofs.vetting.is_whole.Goals as goal

pub returns-then-file-at-lt2 : goal.returns-then-file-at-lt2
returns-then-file-at-lt2 c =
    let f = c.args.file.now in
    let k = c.loop-k._k in
    sym (past_end f (k + 1) _ (omega arith) (omega (arith, head_more f k c.loop-k.at c.loop-k.invariant.0)))

pub returns-then-at-file : goal.returns-then-at-file
returns-then-at-file c =
    let f = c.args.file.now in
    let k = c.loop-k._k in
    sym
    (past_end f (k + 1) _ (omega arith)
    (omega (arith, head_more f k c.loop-k.at c.loop-k.invariant.0, c.two.ensures)))
