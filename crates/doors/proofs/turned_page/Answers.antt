-- `turned_page`: there is a cell for the length. Assumes nothing.
use Rattle.doors.proofs.DoorSteps.{put_one}
use Rattle.doors.proofs.turned_page.Goals as goal

pub returns : goal.returns
returns c = put_one c.args.out.now c.args.size.now _ c.in-Some.ensures.item.3.0 c.turn.ensures c.put_out.ensures
