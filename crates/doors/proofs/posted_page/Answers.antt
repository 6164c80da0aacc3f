-- `posted_page`: load's refusal, post's, or what storing says. Assumes nothing.
use mathlib.Core.Path.{refl, ◌∙◌}
use Rattle.std.proofs.lemmas.Result.{err_from_is_err_and}
use Rattle.octets.proofs.Outcomes.{says-no}
use Rattle.octets.proofs.Refusals.{number-some}
use Rattle.ledger.proofs.PostSteps.{post_kept}
use Rattle.ledger.proofs.RuleLaws.{rules-kept}
use Rattle.pages.specs.Pages.{new}
use Rattle.pages.proofs.PutSteps.{store_puts}
use Rattle.doors.proofs.DoorSteps.{kept-loaded, broken-loaded, load_refused, post_refused, post_stored_lem}
use Rattle.doors.proofs.posted_page.Goals as goal

pub returns-in_err-ledger : goal.returns-in_err-ledger
returns-in_err-ledger c =
    let p = err_from_is_err_and c.from_residual.result c.from_residual.ensures.1 in
    let w = c.in_err-ledger.ensures.broken in
    rw (p.1, p.2, w.1) (says-no _ _ _ (load_refused _ _ _ (broken-loaded _ w.0) (λ e. cc)))

pub returns-in_err-post_record : goal.returns-in_err-post_record
returns-in_err-post_record c =
    let p = err_from_is_err_and c.from_residual-in_err-post_record.result c.from_residual-in_err-post_record.ensures.1 in
    let l = c.in_ok-ledger.ledger in
    let posted = c.in_err-post_record.ensures ∙ post_kept _ _ _ (rules-kept l.cells l.kept) in
    rw (p.1, p.2) (says-no _ _ _ (post_refused _ _ _ (kept-loaded _ c.in_ok-ledger.ensures.kept) refl posted (number-some _)))

pub returns : goal.returns
returns c =
    let l = c.in_ok-ledger.ledger in
    let after = c.post_record.new.self in
    let posted = c.in_ok-post_record.ensures ∙ post_kept _ _ _ (rules-kept l.cells l.kept) in
    let stored = post_stored_lem _ _ _ (kept-loaded _ c.in_ok-ledger.ensures.kept) refl posted refl ∙ store_puts new after.cells (rules-kept after.cells after.kept) in
    rw stored c.store_kept.ensures
