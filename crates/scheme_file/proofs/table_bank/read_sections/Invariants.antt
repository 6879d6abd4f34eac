use Rattle.std.proofs.Common.{◌≡◌, map, vec_items}
use Rattle.std.specs.List.{range_with_len}
use Rattle.scheme_file.specs.File.{head, section_at}
use Rattle.scheme_file.proofs.table_bank.read_sections.Given as goal

abbrev pub invariant-loop-k : goal.invariant-loop-k
invariant-loop-k l =
    (l.at ≡ head l.file l._k) × (vec_items l.list ≡ map (section_at l.file) (range_with_len 0 l._k))
