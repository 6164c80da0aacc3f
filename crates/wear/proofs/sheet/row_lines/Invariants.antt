-- `row_lines`: the rows before this one are put. Assumes nothing.
use Rattle.wear.proofs.SheetLaws as laws
use Rattle.wear.proofs.sheet.row_lines.Given as goal

abbrev pub invariant-loop-i : goal.invariant-loop-i
invariant-loop-i l = laws.RowsPut l.ledger.cells l.fn.text l.text l.i
