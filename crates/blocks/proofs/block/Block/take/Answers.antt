-- `take`: a run of one record, and the typed record that it passed. Assumes nothing.
use Rattle.std.proofs.lemmas.Result.{err_from_is_err_and}
use Rattle.blocks.proofs.StepLaws.{take-refused, take-taken}
use Rattle.blocks.proofs.block.Block.take.Goals as goal

pub returns-in_err-walked : goal.returns-in_err-walked
returns-in_err-walked c =
    let p = err_from_is_err_and c.from_residual.result c.from_residual.ensures.1 in
    rw (p.1, p.2) (take-refused _ _ _ _ c.requires _ _ c.in_err-walked.ensures)

pub returns : goal.returns
returns c = take-taken _ _ _ _ c.requires _ _ c.in_ok-walked.ensures _ c.typed_record.ensures
