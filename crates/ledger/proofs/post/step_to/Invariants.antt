-- `step_to`: the loop's invariant is that the record asked for is as many steps from the cursor as are left. Assumes nothing.
use mathlib.Core.Path.{◌≡◌}
use Prim.Native.Nat.{◌-◌}
use Rattle.ledger.specs.Reports.{step_at}
use Rattle.ledger.proofs.post.step_to.Given as goal

abbrev pub invariant-loop : goal.invariant-loop
invariant-loop l = step_at l.s l.k 3 ≡ step_at l.s (l.k - l.counter) l.cursor.at
