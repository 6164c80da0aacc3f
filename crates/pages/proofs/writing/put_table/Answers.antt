-- `put_table`: row after row. Assumes nothing.
use native.Mathlib.Omega.{arith}
use Rattle.pages.proofs.PutSteps as steps
use borrow.Author.Rules.{rules}
use Rattle.pages.proofs.writing.put_table.Goals as goal

pub loop-i-init : goal.loop-i-init
loop-i-init c = steps.filled_none _ _ _ _

pub put_part-requires : goal.put_part-requires
put_part-requires c =
    steps.part_room _ _ _ _ _ _ c.loop-i.invariant _ c.count_of-i-end.ensures c.requires c.loop-i-test.true _ c.row_wide-wide.ensures

pub loop-i-preserved : goal.loop-i-preserved
loop-i-preserved c =
    steps.filled_more _ _ _ _ _ _ c.loop-i.invariant _ c.count_of-i-end.ensures c.requires c.loop-i-test.true _ c.row_at.ensures _ (search rules)
    (rw (← c.row_wide-wide.ensures) c.put_part.ensures)

pub returns : goal.returns
returns c = steps.filled-all _ _ _ _ _ _ c.loop-i.invariant (omega (arith, c.count_of-i-end.ensures))
