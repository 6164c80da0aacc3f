-- `post_record`: the reader's refusals; a step's; and then the record is posted. Assumes nothing.
use mathlib.Core.Path.{ap, ◌∙◌}
use Rattle.std.proofs.lemmas.Result.{err_from_is_err_and}
use Rattle.ledger.specs.Posts.{posted_to}
use Rattle.ledger.proofs.PostSteps.{post_refused}
use Rattle.ledger.proofs.ReportLaws.{lies, some-step, report-refused, report-stopped, report-taken}
use Rattle.ledger.proofs.kept.KeptLedger.post_record.Goals as goal

pub returns-in_err-read : goal.returns-in_err-read
returns-in_err-read c =
    let p = err_from_is_err_and c.from_residual.result c.from_residual.ensures.1 in
    rw (p.1, p.2) (post_refused _ c.args.self.now.kept _ ∙ ap (posted_to _) (report-refused _ _ _ _ c.in_err-read.ensures.0))

pub returns-in_err-step : goal.returns-in_err-step
returns-in_err-step c =
    let p = err_from_is_err_and c.from_residual-in_err-step.result c.from_residual-in_err-step.ensures.1 in
    rw (p.1, p.2)
    (post_refused _ c.args.self.now.kept _ ∙ ap (posted_to _) (report-stopped _ _ _ _ c.in_ok-read.ensures.0 _ _ c.in_err-step.ensures))

pub post_taken-requires : goal.post_taken-requires
post_taken-requires c = let x = some-step _ _ _ _ _ c.in_ok-step.ensures in lies _ x.0 _ _ (λ j. (c.type_inv.s j).fits) x.1

pub returns : goal.returns
returns c = c.post_taken.ensures ∙ ap (posted_to _) (report-taken _ _ _ _ c.in_ok-read.ensures.0 _ _ c.in_ok-step.ensures)
