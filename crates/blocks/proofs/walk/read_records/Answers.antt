use native.Mathlib.Omega.{arith}
use Rattle.std.proofs.lemmas.Result.{err_from_is_err_and}
use Rattle.blocks.proofs.ReadSteps as steps
use Rattle.blocks.proofs.walk.read_records.Goals as goal

pub loop-walked-smaller : goal.loop-walked-smaller
loop-walked-smaller c = omega (
  arith,
  (steps.run_more _ _ _ c.args.block.now.window.small 1 _ _ (omega arith) c.loop-walked-test.true c.loop-walked.invariant _ c.in_ok-walked.ensures).0,
)

pub loop-walked-preserved : goal.loop-walked-preserved
loop-walked-preserved c =
    (steps.run_more _ _ _ c.args.block.now.window.small 1 _ _ (omega arith) c.loop-walked-test.true c.loop-walked.invariant _ c.in_ok-walked.ensures).1

pub returns-in_err-walked : goal.returns-in_err-walked
returns-in_err-walked c =
    let p = err_from_is_err_and c.from_residual.result c.from_residual.ensures.1 in
    rw (p.1, p.2)
    (steps.run_more _ _ _ c.args.block.now.window.small 1 _ _ (omega arith) c.loop-walked-test.true c.loop-walked.invariant _ c.in_err-walked.ensures)

pub returns : goal.returns
returns c = steps.passed_all _ _ _ _ _ c.loop-walked.invariant c.loop-walked-test.false
