-- `put_records`: the loop's invariant is that the records from the offset on are still to be laid, the measure what is left of LEN.
-- Assumes nothing.
use Prim.Native.Nat.{◌-◌}
use Rattle.writing.proofs.RewriteSteps as steps
use Rattle.writing.proofs.block.put_records.Given as goal

abbrev pub invariant-loop-cursor : goal.invariant-loop-cursor
invariant-loop-cursor l = steps.Put l.block.window.octets.now l.block.window.len l.block.cat l.initial.out l.out l.p l.cursor.at

abbrev pub decreases-loop-cursor : goal.decreases-loop-cursor
decreases-loop-cursor l = l.block.window.len - l.cursor.at
