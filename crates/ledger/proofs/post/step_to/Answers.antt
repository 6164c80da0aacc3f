use mathlib.Core.Path.{sym, ◌∙◌}
use native.Mathlib.Omega.{arith}
use Rattle.std.proofs.lemmas.Result.{err_from_is_err_and}
use Rattle.ledger.proofs.ReportLaws.{at_last, at-stopped, at_next}
use Rattle.ledger.proofs.post.step_to.Goals as goal

pub returns-in_err-cursor : goal.returns-in_err-cursor
returns-in_err-cursor c =
    let p = err_from_is_err_and c.from_residual.result c.from_residual.ensures.1 in
    rw (p.1, p.2) (at-stopped _ _ _ _ _ (omega arith) c.in_err-cursor.ensures.0 ∙ sym c.loop.invariant)

pub loop-preserved : goal.loop-preserved
loop-preserved c = c.loop.invariant ∙ at_next _ _ _ _ _ _ (omega arith) c.in_ok-cursor.ensures.0

pub returns : goal.returns
returns c = c.step-2.ensures.0 ∙ at_last _ _ _ (omega arith) ∙ sym c.loop.invariant
