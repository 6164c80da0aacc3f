-- `normal_size`: the loop's invariant is how many octets the records from the offset on still have, the measure what is left of LEN.
-- A record that was taken is not refused. Assumes nothing.
use Prim.Native.Nat.{◌-◌}
use Rattle.writing.proofs.RewriteSteps as steps
use Rattle.writing.proofs.block.normal_size.Given as goal

abbrev pub invariant-loop-cursor : goal.invariant-loop-cursor
invariant-loop-cursor l = steps.Counted l.block.window.octets.now l.block.window.len l.block.cat l.total l.cursor.at

abbrev pub decreases-loop-cursor : goal.decreases-loop-cursor
decreases-loop-cursor l = l.block.window.len - l.cursor.at
