-- `fed_page`: load's refusal, or what storing says of the ledger that the run leaves. Assumes nothing.
use mathlib.Core.Path.{refl, ap}
use Rattle.std.proofs.lemmas.Result.{err_from_is_err_and}
use Rattle.octets.specs.Written.{as_written}
use Rattle.ledger.proofs.RuleLaws.{rules-kept}
use Rattle.pages.specs.Pages.{new}
use Rattle.pages.proofs.PutSteps.{store_puts}
use Rattle.doors.proofs.DoorSteps.{kept-loaded, broken-loaded, feed-refused, feed-stored}
use Rattle.doors.proofs.feeds.fed_page.Goals as goal

pub returns-in_err-ledger : goal.returns-in_err-ledger
returns-in_err-ledger c =
    let p = err_from_is_err_and c.from_residual.result c.from_residual.ensures.1 in
    let w = c.in_err-ledger.ensures.broken in
    rw (p.1, p.2, w.1) (feed-refused _ _ _ _ (broken-loaded _ w.0) (λ e. cc))

pub returns-in_err-size : goal.returns-in_err-size
returns-in_err-size c =
    let p = err_from_is_err_and c.from_residual-in_err-size.result c.from_residual-in_err-size.ensures.1 in
    let after = c.run-done.new.ledger in
    rw (p.1, p.2)
    (feed-stored _ _ _ c.args.out.now (kept-loaded _ c.in_ok-ledger.ensures.kept) refl c.run-done.ensures _
    (rw (store_puts new after.cells (rules-kept after.cells after.kept)) c.store_kept.ensures) (ap as_written c.in_err-size.was))

pub returns : goal.returns
returns c =
    let after = c.run-done.new.ledger in
    feed-stored _ _ _ c.args.out.now (kept-loaded _ c.in_ok-ledger.ensures.kept) refl c.run-done.ensures _
    (rw (store_puts new after.cells (rules-kept after.cells after.kept)) c.store_kept.ensures) (ap as_written c.in_ok-size.was)
