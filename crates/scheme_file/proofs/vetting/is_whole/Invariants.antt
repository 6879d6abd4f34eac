use Rattle.std.proofs.Common.{◌≡◌, ◌≤◌, length}
use Rattle.scheme_file.specs.File.{head}
use Rattle.scheme_file.proofs.vetting.is_whole.Given as goal

abbrev pub invariant-loop-k : goal.invariant-loop-k
invariant-loop-k l = (l.at ≡ head l.file l._k) × (l.at ≤ length l.file)
