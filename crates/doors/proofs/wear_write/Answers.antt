-- `wear_write`: too few cells, or what `write` says of their record. Assumes nothing.
use borrow.Author.Tests.{le-ltb}
use Rattle.doors.proofs.DoorSteps.{put_all}
use Rattle.doors.proofs.wear_write.Goals as goal

pub returns : goal.returns
returns c =
    let a = c.args in
    let some = c.in-Some.ensures.item.3.0 in
    put_all a.out.now a.size.now _ some c.write.ensures c.put_out.ensures _
    (rw (le-ltb _ _ c.if-cells-lt-CELLS.false) (le-ltb _ _ some))
