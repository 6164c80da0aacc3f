-- `next_block`: by the branch. Assumes nothing.
use mathlib.Core.Path.{sym, ◌∙◌}
use Rattle.feed.proofs.NextLaws.{next-few, next-ended, next-cut, next_low, next-stopped, next_more, next-judged, next-told}
use Rattle.feed.proofs.block.next_block.Goals as goal

pub returns-then-not-is_over : goal.returns-then-not-is_over
returns-then-not-is_over c = next-told _ _ _ (next-few _ _ c.if-s-lt3.true c.if-not-is_over.true)

pub returns-then-is_empty : goal.returns-then-is_empty
returns-then-is_empty c =
    next-told _ _ _ (next-ended _ _ c.if-s-lt3.true c.if-not-is_over.false (sym c.is_empty.ensures ∙ c.if-is_empty.true))

pub returns-else-is_empty : goal.returns-else-is_empty
returns-else-is_empty c =
    next-told _ _ _ (next-cut _ _ c.if-s-lt3.true c.if-not-is_over.false (sym c.is_empty.ensures ∙ c.if-is_empty.false))

pub returns-then-len-lt4 : goal.returns-then-len-lt4
returns-then-len-lt4 c = next-told _ _ _ (next_low _ _ c.if-s-lt3.false _ c.read-len.ensures.0 c.if-len-lt4.true)

pub returns-then-is_over : goal.returns-then-is_over
returns-then-is_over c =
    next-told _ _ _ (next-stopped _ _ c.if-s-lt3.false _ c.read-len.ensures.0 c.if-len-lt4.false c.if-s-len.true c.if-is_over.true)

pub returns-else-is_over : goal.returns-else-is_over
returns-else-is_over c =
    next-told _ _ _ (next_more _ _ c.if-s-lt3.false _ c.read-len.ensures.0 c.if-len-lt4.false c.if-s-len.true c.if-is_over.false)

pub returns-in-Ok : goal.returns-in-Ok
returns-in-Ok c =
    next-told _ _ _
    (next-judged _ _ c.if-s-lt3.false _ c.read-len.ensures.0 c.if-len-lt4.false c.if-s-len.false _ c.in-Ok.ensures.0)

pub returns-in-Err : goal.returns-in-Err
returns-in-Err c =
    next-told _ _ _
    (next-judged _ _ c.if-s-lt3.false _ c.read-len.ensures.0 c.if-len-lt4.false c.if-s-len.false _ c.in-Err.ensures.0)
