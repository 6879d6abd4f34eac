use Rattle.std.proofs.Common.{ap, ◌∙◌}
use Rattle.std.specs.List.{slice_get}
use Rattle.fddevs.proofs.Items.{copied_at}
use Rattle.scheme_file.proofs.Sections.{listed}
use Rattle.scheme_file.proofs.scheme.Scheme.section.Goals as goal

pub returns : goal.returns
returns c =
    c.copied.ensures ∙ copied_at _ _ _ c.get.ensures.lookup
    ∙ ap (λ xs. slice_get xs c.from.result) c.deref.ensures.value
    ∙ ap (slice_get c.args.self.now.sections.items) c.from.ensures
    ∙ listed c.args.self.now c.args.part
