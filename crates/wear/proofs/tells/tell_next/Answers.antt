-- `tell_next`: by what comes next; a block that is skipped has a header. Assumes nothing.
use Rattle.std.proofs.Common.{arith}
use Rattle.wear.proofs.TellLaws.{goes_on}
use Rattle.wear.proofs.tells.tell_next.Goals as goal

pub say_skipped-requires : goal.say_skipped-requires
say_skipped-requires c =
    let w = goes_on _ _ _ _ c.in-Skipped.is c.next_block.ensures in
    omega (arith, w.0.0, w.0.1)

pub returns-in-Accepted : goal.returns-in-Accepted
returns-in-Accepted c =
    let w = goes_on _ _ _ _ c.in-Accepted.is c.next_block.ensures in
    (w.1, w.0.1)

pub returns-in-Skipped : goal.returns-in-Skipped
returns-in-Skipped c =
    let w = goes_on _ _ _ _ c.in-Skipped.is c.next_block.ensures in
    (w.1, w.0.1)
