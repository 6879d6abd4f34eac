use Rattle.std.proofs.Common.{rules}
use Rattle.fddevs.proofs.Ranges.{all_of_range}
use Rattle.scheme_file.specs.Vetting.{external_exists}
use Rattle.scheme_file.proofs.section.Section.has_record.Goals as goal

pub returns-then-has_phase : goal.returns-then-has_phase
returns-then-has_phase c =
    let x = c.args.self in
    let r = c.args.bytes.now in
    let all = all_of_range (external_exists x r) x.counts.inputs _ _ c.all.result (search rules) c.all.ensures.ran (λ i b q k. search rules) in
    search rules
