-- `wear_feed`: what is refused; the search finds the rest. Assumes nothing.
use mathlib.Core.Path.{sym, ap, ◌∙◌}
use borrow.Author.Tests.{le-ltb}
use Rattle.doors.specs.Fed.{as_fed}
use Rattle.doors.specs.Feeds.{is_over, feed_run}
use Rattle.doors.proofs.DoorSteps.{fed-refused}
use Rattle.doors.proofs.wear_feed.Goals as goal

pub returns-in-Err : goal.returns-in-Err
returns-in-Err c =
    let e = fed-refused _ (feed_run c.args.page.now c.args.s.now (is_over c.args.more)) (ap as_fed (sym c.in-Err.is) ∙ c.fed_page.ensures.1) in
    rw (e, le-ltb _ _ c.if-cells-lt-FEED_CELLS.false) (c.number.ensures, rw e at c.fed_page.ensures.0, c.lay-in-Err.ensures)
