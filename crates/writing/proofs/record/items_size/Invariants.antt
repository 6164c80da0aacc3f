-- `items_size`. The loop's invariant: the fields before f are counted, and none is refused. Assumes nothing.
use Rattle.writing.proofs.ItemsWritten.{CountedFields}
use Rattle.writing.proofs.record.items_size.Given as goal

abbrev pub invariant-loop-f : goal.invariant-loop-f
invariant-loop-f l = CountedFields l.source l.«record» l.total l.f
