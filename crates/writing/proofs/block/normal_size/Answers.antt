-- `normal_size`: the loop's invariant is how many octets the records from the offset on still have, the measure what is left of LEN.
-- A record that was taken is not refused. Assumes nothing.
use mathlib.Core.Path.{sym}
use native.Mathlib.Omega.{arith}
use Rattle.layouts.specs.Categories.{category}
use Rattle.writing.proofs.GoodLaws.{good-short}
use Rattle.writing.proofs.RewriteSteps as steps
use Rattle.writing.proofs.block.normal_size.Goals as goal

pub loop-cursor-init : goal.loop-cursor-init
loop-cursor-init c = rw c.first-cursor.ensures (steps.counted_none _ _ _)

-- the first record that is refused ends them
pub returns-in_default : goal.returns-in_default
returns-in_default c = steps.counted-stopped _ _ _ _ _ c.loop-cursor.invariant _ _ (sym c.in_default.ensures)

-- no record that was taken is refused
pub returns-in_default-record_size : goal.returns-in_default-record_size
returns-in_default-record_size c =
    let b = c.args.block.now in
    absurd (steps.counted-refused _ _ _ b.window.small b.window.inside b.known _ c.loop-cursor-test.true _ _ (sym c.in-Ok.ensures) _ c.in_default-record_size.ensures)

-- a record more
pub overflow_add-total : goal.overflow_add-total
overflow_add-total c =
    let b = c.args.block.now in
    omega (
      arith,
      steps.counted-low _ _ _ b.window.small b.window.inside b.known _ c.loop-cursor-test.true _ _ (sym c.in-Ok.ensures) _ _ c.loop-cursor.invariant c.in-Ok-record_size.ensures,
      good-short b.window.octets.now b.window.len (category b.cat) b.window.small b.window.inside b.window.len 3 (omega (arith, c.loop-cursor.invariant.behind)),
    )

pub loop-cursor-smaller : goal.loop-cursor-smaller
loop-cursor-smaller c =
    let b = c.args.block.now in
    omega (arith, steps.next-forward _ _ _ b.window.small b.window.inside b.known _ c.loop-cursor-test.true _ _ (sym c.in-Ok.ensures))

pub loop-cursor-preserved : goal.loop-cursor-preserved
loop-cursor-preserved c =
    let b = c.args.block.now in
    steps.counted-more _ _ _ b.window.small b.window.inside b.known _ c.loop-cursor-test.true _ _ (sym c.in-Ok.ensures) _ _ c.loop-cursor.invariant c.in-Ok-record_size.ensures

pub returns : goal.returns
returns c = steps.counted-end _ _ _ _ _ c.loop-cursor.invariant c.loop-cursor-test.false
