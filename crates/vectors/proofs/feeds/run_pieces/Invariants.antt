-- `run_pieces`: what waits lies in the octets. Assumes nothing.
use Rattle.std.proofs.Common.{◌-◌, length}
use Rattle.vectors.proofs.PieceSteps as steps
use Rattle.vectors.proofs.feeds.run_pieces.Given as goal

abbrev pub invariant-loop-to : goal.invariant-loop-to
invariant-loop-to l = steps.Waits l.s l.from l.to

abbrev pub decreases-loop-to : goal.decreases-loop-to
decreases-loop-to l = length l.s - l.to
