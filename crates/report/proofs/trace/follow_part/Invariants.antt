use Rattle.std.proofs.Common.{◌≡◌, drop}
use Rattle.fddevs.specs.Part.{begin}
use Rattle.std.specs.Option.{option_or}
use Rattle.report.specs.Followed.{first_stuck}
use Rattle.report.proofs.trace.follow_part.Given as goal

abbrev pub invariant-loop-k : goal.invariant-loop-k
invariant-loop-k g l =
    let F = g.B.Bank.family l.bank in
    option_or l.stuck (first_stuck F l.part (drop l.k l.moves) l.k l.state) ≡
    first_stuck F l.part l.moves 0 (begin (F.part l.part))
