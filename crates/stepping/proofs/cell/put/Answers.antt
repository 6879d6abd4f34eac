use Rattle.std.proofs.Common.{◌≡◌, ℕ, ◌+◌, ◌*◌, List, get_or, set, ap, ◌∙◌, arith}
use Rattle.fddevs.specs.declared.part.Cell.{Cell}
use Rattle.fddevs.specs.declared.part.Span.{Span}
use Rattle.stepping.specs.RowBytes.{cells_of}
use Rattle.fddevs.specs.Bytes.{span_of, ticks_of}
use Rattle.stepping.proofs.Bytes.{put_cell}
use Rattle.stepping.proofs.Shorts.{span_ticks}
use Rattle.stepping.proofs.cell.put.Goals as goal

pub returns : goal.returns
returns c =
    let bs = c.args.row.now.bytes in
    let p = c.from-at.result in
    let v = c.args.cell in
    let b = c.to_be_bytes.result in
    let t : get_or b 0 0 * 256 + get_or b 1 0 ≡ ticks_of v.remaining =
    ap (λ (l : List ℕ). get_or l 0 0 * 256 + get_or l 1 0) c.to_be_bytes.ensures ∙ omega arith ∙ c.from.ensures in
    let f : Span → Cell = λ s. record { phase = v.phase; remaining = s } in
    put_cell p bs v.phase (get_or b 0 0) (get_or b 1 0) (omega (arith, c.from-at.ensures))
    ∙ ap (λ s. set (cells_of bs) p (f s)) (ap span_of t ∙ span_ticks v.remaining c.requires.short)
    ∙ ap (λ q. set (cells_of bs) q v) c.from-at.ensures
