-- `wear_post`: there is a cell for the length. Assumes nothing.
use Rattle.doors.proofs.DoorSteps.{put_one}
use Rattle.doors.proofs.wear_post.Goals as goal

pub returns : goal.returns
returns c = put_one c.args.out.now c.args.size.now _ c.in-Some.ensures.item.3.0 c.posted_page.ensures c.put_out.ensures
