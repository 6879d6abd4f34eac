use Rattle.std.proofs.Common.{◌≡◌, ℕ, ◌<◌, true}
use Rattle.scheme_file.specs.File.{head}
use Rattle.scheme_file.specs.Vetting.{passes}
use Rattle.scheme_file.proofs.vetting.check_sections.Given as goal

abbrev pub invariant-loop-k : goal.invariant-loop-k
invariant-loop-k l =
    (l.at ≡ head l.file l.k) × ((j : ℕ) → j < l.k → passes l.test l.file (head l.file j) ≡ true)
