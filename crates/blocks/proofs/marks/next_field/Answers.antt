-- `next_field` counts the zeros below the first mark left. Assumes nothing.
use Rattle.blocks.proofs.NextLaws.{none-left, some-left}
use Rattle.blocks.proofs.marks.next_field.Goals as goal

pub returns-then-left-eq0 : goal.returns-then-left-eq0
returns-then-left-eq0 c = none-left c.args.marks c.args.from c.requires.0 c.requires.1 (rw c.from.ensures at c.if-left-eq0.true)

pub returns-else-left-eq0 : goal.returns-else-left-eq0
returns-else-left-eq0 c = rw c.from.ensures (some-left c.args.marks c.args.from c.requires.0 c.requires.1 c.ranges.marks.fits (rw c.from.ensures at c.if-left-eq0.false))
