-- `Page::ledger`: the loop's invariant is that the cells hold the rows passed. Assumes nothing.
use Rattle.pages.proofs.PageSteps as steps
use Rattle.pages.proofs.page.Page.ledger.Given as goal

abbrev pub invariant-loop-i : goal.invariant-loop-i
invariant-loop-i l = steps.Loaded l.self l.ledger.cells l.i
