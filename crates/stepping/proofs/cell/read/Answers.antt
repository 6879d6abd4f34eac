use Rattle.std.proofs.Common.{◌*◌, get_or, sym, ap, ◌∙◌, subst, arith, rules}
use Rattle.fddevs.specs.declared.part.Cell.{Cell}
use Rattle.fddevs.specs.declared.part.Span.{Span}
use Rattle.fddevs.specs.Machine.{Short}
use Rattle.stepping.specs.RowBytes.{cells_of}
use Rattle.fddevs.specs.Bytes.{span_of}
use Rattle.stepping.specs.Stepping.{nth_cell}
use Rattle.stepping.proofs.Bytes.{read_cell}
use Rattle.stepping.proofs.Shorts.{short_read}
use Rattle.stepping.proofs.cell.read.Goals as goal

pub returns : goal.returns
returns c =
    let bs = c.args.row.now.bytes in
    let p = c.from-at.result in
    let f : Span → Cell = λ s. record { phase = get_or bs (3 * p) 0; remaining = s } in
    record {
      value =
          ap f (c.from.ensures ∙ ap span_of c.from_be_bytes-ticks.ensures)
          ∙ sym (read_cell p bs (omega (arith, c.from-at.ensures)))
          ∙ ap (nth_cell (cells_of bs)) c.from-at.ensures;
      short =
          let P : Span → Type 0 = Short in
          subst P (sym c.from.ensures) (short_read c.from_be_bytes-ticks.result (search rules));
    }
