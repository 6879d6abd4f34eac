use Rattle.std.proofs.Common.{rules}
use Rattle.fddevs.proofs.Ranges.{all_of_range}
use Rattle.scheme_file.specs.File.{record_of}
use Rattle.scheme_file.specs.Vetting.{record_exists}
use Rattle.scheme_file.proofs.section.Section.exists_in.Goals as goal

pub returns-then-self : goal.returns-then-self
returns-then-self c =
    let x = c.args.self in
    let f = c.args.file.now in
    let all = all_of_range (λ s. record_exists x (record_of f x s)) x.counts.phases _ _ c.all.result (search rules) c.all.ensures.ran (λ s b q k. search rules) in
    search rules
