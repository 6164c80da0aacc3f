use Rattle.std.proofs.Common.{arith}
use Rattle.vectors.proofs.PieceSteps as steps
use Rattle.vectors.proofs.feeds.run_pieces.Goals as goal

-- the next offset lies in the octets
pub overflow_add-from : goal.overflow_add-from
overflow_add-from c =
    let w = steps.waits-more _ _ _ _ c.loop-to.invariant c.with_piece-to.ensures _ _ _ c.run-done.ensures.1 in
    omega (arith, w.within, w.come)

pub loop-to-preserved : goal.loop-to-preserved
loop-to-preserved c = steps.waits-more _ _ _ _ c.loop-to.invariant c.with_piece-to.ensures _ _ _ c.run-done.ensures.1
