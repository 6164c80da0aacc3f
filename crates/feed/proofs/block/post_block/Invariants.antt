-- `post_block`: the loop's invariant is that the records from the offset on are still to be posted, the measure what is left of LEN.
-- Assumes nothing.
use Prim.Native.Nat.{◌-◌}
use Rattle.feed.proofs.BlockSteps as steps
use Rattle.feed.proofs.block.post_block.Given as goal

abbrev pub invariant-loop-at : goal.invariant-loop-at
invariant-loop-at l = steps.Posting l.s l.len l.initial.ledger.cells l.initial.after l.ledger.cells l.after l.at

abbrev pub decreases-loop-at : goal.decreases-loop-at
decreases-loop-at l = l.len - l.at
