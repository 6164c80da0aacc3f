-- `note_rows`: the loop's invariant is that what is noted is so, and that the keys from the place on are not below the report's first.
-- Assumes nothing.
use Rattle.ledger.proofs.KnownLaws.{NoteLoop}
use Rattle.ledger.proofs.kept.KeptLedger.note_rows.Given as goal

abbrev pub invariant-loop-place : goal.invariant-loop-place
invariant-loop-place l = NoteLoop l.self.cells l.first l.places l.place
