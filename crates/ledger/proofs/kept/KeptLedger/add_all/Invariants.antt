-- `add_all`: the loop's invariant is that the ledger with the entries left is the one asked for. Assumes nothing.
use Rattle.ledger.proofs.LoopSteps as steps
use Rattle.ledger.proofs.kept.KeptLedger.add_all.Given as goal

abbrev pub invariant-loop-i : goal.invariant-loop-i
invariant-loop-i l = steps.AddLoop l.initial.self.cells l.report.octets.now l.report.numbers l.self.cells l.i
