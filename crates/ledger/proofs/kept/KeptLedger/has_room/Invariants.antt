-- `has_room`: the loop's invariant is the number of rows that there are with the entries so far. Assumes nothing.
use Rattle.ledger.proofs.LoopSteps as steps
use Rattle.ledger.proofs.kept.KeptLedger.has_room.Given as goal

abbrev pub invariant-loop-i : goal.invariant-loop-i
invariant-loop-i l = steps.CountLoop l.self.cells l.report.octets.now l.report.numbers l.counted l.rows l.i
