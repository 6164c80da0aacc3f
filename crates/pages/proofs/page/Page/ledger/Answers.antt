use native.Mathlib.Omega.{arith}
use Rattle.pages.proofs.PageSteps as steps
use Rattle.pages.proofs.page.Page.ledger.Goals as goal

pub loop-i-init : goal.loop-i-init
loop-i-init c = steps.loaded-none c.args.self.now _ c.fresh-ledger.ensures

pub returns : goal.returns
returns c = steps.loaded-all c.args.self.now _ _ c.loop-i.invariant (omega arith)
