-- `put_records`: the loop's invariant is that the records from the offset on are still to be laid, the measure what is left of LEN.
-- Assumes nothing.
use mathlib.Core.Path.{sym}
use native.Mathlib.Omega.{arith}
use Rattle.writing.proofs.RewriteSteps as steps
use Rattle.writing.proofs.block.put_records.Goals as goal

pub loop-cursor-init : goal.loop-cursor-init
loop-cursor-init c = rw c.first-cursor.ensures (steps.put-none _ _ _ _)

-- the first record that is refused ends them
pub returns-in_default : goal.returns-in_default
returns-in_default c = steps.put-stopped _ _ _ _ _ _ _ c.loop-cursor.invariant _ _ (sym c.in_default.ensures)

-- a record that was taken is not refused, and there is room for it
pub invariant_of-judged : goal.invariant_of-judged
invariant_of-judged c =
    let b = c.args.block.now in
    record { fine = (steps.rest-next _ _ _ b.window.small b.window.inside b.known _ c.loop-cursor-test.true _ _ (sym c.in-Ok.ensures)).fine }

pub put-p-requires : goal.put-p-requires
put-p-requires c =
    let b = c.args.block.now in
    steps.put-room _ _ _ b.window.small b.window.inside b.known _ c.loop-cursor-test.true _ _ (sym c.in-Ok.ensures) _ _ _ c.loop-cursor.invariant c.requires

-- a record more
pub loop-cursor-smaller : goal.loop-cursor-smaller
loop-cursor-smaller c =
    let b = c.args.block.now in
    omega (arith, steps.next-forward _ _ _ b.window.small b.window.inside b.known _ c.loop-cursor-test.true _ _ (sym c.in-Ok.ensures))

pub loop-cursor-preserved : goal.loop-cursor-preserved
loop-cursor-preserved c =
    let b = c.args.block.now in
    steps.put-more _ _ _ b.window.small b.window.inside b.known _ c.loop-cursor-test.true _ _ (sym c.in-Ok.ensures) _ _ _ c.loop-cursor.invariant c.requires
    _ _ c.put-p.ensures.0 c.put-p.ensures.1

pub returns : goal.returns
returns c = steps.put-end _ _ _ _ _ _ _ c.loop-cursor.invariant c.loop-cursor-test.false
