-- `put_table`: the loop's invariant is that the rows passed are laid. Assumes nothing.
use Rattle.pages.proofs.PutSteps as steps
use Rattle.pages.proofs.writing.put_table.Given as goal

abbrev pub invariant-loop-i : goal.invariant-loop-i
invariant-loop-i l = steps.Filled l.which l.at l.ledger.cells l.initial.out l.out l.i
