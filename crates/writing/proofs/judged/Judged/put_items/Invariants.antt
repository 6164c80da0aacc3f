-- `Judged::put_items`. The loop's invariant: laying the items of the fields from f on at p is laying all. Assumes nothing.
use Rattle.writing.proofs.ItemsWritten.{LaidFields}
use Rattle.writing.proofs.judged.Judged.put_items.Given as goal

abbrev pub invariant-loop-f : goal.invariant-loop-f
invariant-loop-f l = LaidFields l.self.source.now l.self.typed l.initial.out l.at l.out l.p l.f
