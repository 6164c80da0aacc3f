-- `write`: the cells' refusal, or what `write` says of their record. Assumes nothing.
use mathlib.Core.Path.{ap}
use Rattle.std.proofs.lemmas.Result.{err_from_is_err_and}
use Rattle.octets.specs.Refusals.{refusal_in}
use Rattle.octets.proofs.Outcomes.{says-no}
use Rattle.octets.proofs.Refusals.{number-some}
use Rattle.doors.proofs.DoorSteps.{cells_refused, cells_taken}
use Rattle.doors.proofs.cells.RecordCells.write.Goals as goal

pub returns-in_err-refusal : goal.returns-in_err-refusal
returns-in_err-refusal c =
    let a = c.args in
    let p = err_from_is_err_and c.from_residual.result c.from_residual.ensures.1 in
    let e = ap refusal_in c.in_err-refusal.was in
    rw (p.1, p.2, ← e) (says-no _ _ _ (cells_refused a.self.now.cells.now a.source.now c.refusal.ensures (rw e (number-some _))))

pub returns : goal.returns
returns c =
    let a = c.args in
    rw (cells_taken a.self.now.cells.now a.source.now c.refusal.ensures (ap refusal_in c.in_ok-refusal.was) c.record.ensures) c.write.ensures
