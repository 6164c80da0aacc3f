-- `counter`: the number of the entry's own octets is the one that they spell in the slice. Assumes nothing.
use Rattle.std.proofs.Common.{arith, ap, ◌∙◌}
use Rattle.layouts.specs.Groups.{values}
use Rattle.layouts.specs.Tables.{counter}
use Rattle.items.specs.Typed.{counter_of}
use Rattle.blocks.proofs.PartLaws.{part-number}
use Rattle.blocks.proofs.statistics.counter.Goals as goal

pub returns : goal.returns
returns c = c.counter_at.ensures ∙ ap (λ n. counter_of (values counter.parts n)) (part-number 6 _ c.args.s.now _ (omega arith))
