-- `post_known`: the loop's invariant is that of `add_all`, and the rows are in their places. Assumes nothing.
use Rattle.ledger.proofs.KnownLaws.{KnownLoop}
use Rattle.ledger.proofs.kept.KeptLedger.post_known.Given as goal

abbrev pub invariant-loop-i : goal.invariant-loop-i
invariant-loop-i l = KnownLoop l.initial.self.cells l.report.octets.now l.report.numbers l.self.cells l.i
