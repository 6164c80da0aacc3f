use mathlib.Core.Logic.{inl, inr}
use mathlib.Core.Path.{sym, ◌∙◌}
use native.Mathlib.Omega.{arith}
use Rattle.ledger.specs.Ledgers.{rows_of}
use Rattle.feed.specs.Runs.{state}
use Rattle.feed.proofs.RunSteps as steps
use Rattle.feed.proofs.run.run.Goals as goal
use Rattle.feed.proofs.run.run.Goals.{After-post_block-after, After-with_refused-after}

accepted : (c : After-post_block-after)
    → steps.Onward c.args.s.now c.args.is_over (state (rows_of c.args.ledger.now.cells) c.args.totals) c.post_block-after.new.ledger.cells c.post_block-after.result
    c.loop-len.at c.in-Accepted.len
accepted c =
    steps.going-accepted _ _ _ _ _ _ c.loop-len.invariant _ (sym c.in-Accepted.is ∙ c.next_block.ensures.0)
    _ _ c.post_block-after.ensures.0 c.post_block-after.ensures.1

skipped : (c : After-with_refused-after)
    → steps.Onward c.args.s.now c.args.is_over (state (rows_of c.args.ledger.now.cells) c.args.totals) c.loop-len.ledger.cells c.with_refused-after.result
    c.loop-len.at c.in-Skipped.len
skipped c =
    steps.going_skipped _ _ _ _ _ _ c.loop-len.invariant _ (sym c.in-Skipped.is ∙ c.next_block.ensures.0) c.with_refused-after.ensures

pub post_block-after-requires : goal.post_block-after-requires
post_block-after-requires c =
    steps.going_asks _ _ _ _ _ _ c.loop-len.invariant _ (sym c.in-Accepted.is ∙ c.next_block.ensures.0) (λ j. (c.type_inv.s j).fits)

pub overflow_add-at : goal.overflow_add-at
overflow_add-at c = omega (arith, (accepted c).going.within)

pub loop-len-smaller-in-Accepted : goal.loop-len-smaller-in-Accepted
loop-len-smaller-in-Accepted c = let b = accepted c in omega (arith, b.some, b.going.within)

pub loop-len-preserved-in-Accepted : goal.loop-len-preserved-in-Accepted
loop-len-preserved-in-Accepted c = (accepted c).going

pub overflow_add-at-in-Skipped : goal.overflow_add-at-in-Skipped
overflow_add-at-in-Skipped c = omega (arith, (skipped c).going.within)

pub loop-len-smaller : goal.loop-len-smaller
loop-len-smaller c = let b = skipped c in omega (arith, b.some, b.going.within)

pub loop-len-preserved : goal.loop-len-preserved
loop-len-preserved c = (skipped c).going

pub returns-in-Stopped : goal.returns-in-Stopped
returns-in-Stopped c =
    steps.going-left _ _ _ _ _ _ c.loop-len.invariant c.loop-len.ledger.kept _ (sym c.in-Left.is ∙ c.next_block.ensures.0)
    (c.with_refused-totals.ensures ∙ rw c.in-Stopped.is)

pub returns-in-Ended : goal.returns-in-Ended
returns-in-Ended c =
    steps.going-left _ _ _ _ _ _ c.loop-len.invariant c.loop-len.ledger.kept _ (sym c.in-Left.is ∙ c.next_block.ensures.0)
    (elim c.in-Ended.is [ inl e ↦ rw e | inr e ↦ rw e ])
