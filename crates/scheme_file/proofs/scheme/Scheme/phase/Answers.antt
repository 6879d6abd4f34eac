use Rattle.std.proofs.Common.{vec_items}
use Rattle.scheme_file.specs.Sound.{sound, found_record}
use Rattle.scheme_file.proofs.scheme.Scheme.phase.Goals as goal

pub record_bytes-requires : goal.record_bytes-requires
record_bytes-requires c =
    let x = c.args.self.now in
    let f = vec_items x.file in
    rw c.as_slice.ensures.value
    (found_record f c.args.part c.args.number c.in_ok-x.x (sound f x.vetted)
    c.in_ok-x.ensures c.if-number-x.false)
