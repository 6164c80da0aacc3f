use Rattle.ledger.proofs.ChangeLaws.{emptied_all}
use Rattle.ledger.proofs.fresh.Goals as goal

pub returns : goal.returns
returns c = emptied_all _ _ c.loop-i.invariant c.loop-i-test.false
