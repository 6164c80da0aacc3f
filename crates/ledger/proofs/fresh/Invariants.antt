-- `fresh`: the loop's invariant is that the places so far are empty. Assumes nothing.
use Rattle.ledger.proofs.ChangeLaws.{Emptied}
use Rattle.ledger.proofs.fresh.Given as goal

abbrev pub invariant-loop-i : goal.invariant-loop-i
invariant-loop-i l = Emptied l.cells l.i
