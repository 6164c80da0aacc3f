-- `run`: the loop's invariant is that the run from the offset on is still to be done, the measure how many octets it has. Assumes nothing.
use Prim.Native.Nat.{◌-◌}
use lib.ListN.{length}
use Rattle.ledger.specs.Ledgers.{rows_of}
use Rattle.feed.specs.Runs.{state}
use Rattle.feed.proofs.RunSteps as steps
use Rattle.feed.proofs.run.run.Given as goal

abbrev pub invariant-loop-len : goal.invariant-loop-len
invariant-loop-len l = steps.Going l.s l.is_over (state (rows_of l.initial.ledger.cells) l.initial.after) l.ledger.cells l.after l.at

abbrev pub decreases-loop-len : goal.decreases-loop-len
decreases-loop-len l = length l.s - l.at
