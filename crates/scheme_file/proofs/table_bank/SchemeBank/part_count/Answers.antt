use Rattle.std.proofs.Common.{vec_items, ◌∙◌, arith}
use Rattle.scheme_file.proofs.Sections.{sections_len}
use Rattle.scheme_file.specs.Sound.{sound}
use Rattle.scheme_file.proofs.table_bank.SchemeBank.part_count.Goals as goal

pub overflow_cast-result : goal.overflow_cast-result
overflow_cast-result c =
    let x = c.args.self.now in
    omega (arith, sections_len x, (sound (vec_items x.file) x.vetted).few, c.len.ensures)

pub returns : goal.returns
returns c = c.len.ensures ∙ sections_len c.args.self.now
