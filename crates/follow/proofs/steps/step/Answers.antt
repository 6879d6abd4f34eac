use Rattle.follow.proofs.Exact.{exactly}
use Rattle.follow.proofs.steps.step.Goals as goal

pub returns : goal.returns
returns g c = record { answer = c.make_move.ensures; exact = exactly _ _ _ _ _ c.make_move.ensures }
