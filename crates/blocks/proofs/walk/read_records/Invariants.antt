-- `read_records`: the loop's invariant is what the block answers with the records passed so far, the measure what is left of LEN.
-- Assumes nothing.
use Prim.Native.Nat.{◌-◌}
use Rattle.layouts.specs.Categories.{category}
use Rattle.blocks.proofs.ReadSteps as steps
use Rattle.blocks.proofs.walk.read_records.Given as goal

abbrev pub invariant-loop-walked : goal.invariant-loop-walked
invariant-loop-walked l = steps.Passed l.block.window.octets.now l.block.window.len (category l.block.cat) l.walked.at l.walked.count

abbrev pub decreases-loop-walked : goal.decreases-loop-walked
decreases-loop-walked l = l.block.window.len - l.walked.at
