use Rattle.std.proofs.Common.{arith}
use Rattle.wear.proofs.SheetLaws as laws
use Rattle.wear.proofs.sheet.row_lines.Goals as goal

pub loop-i-init : goal.loop-i-init
loop-i-init c = laws.rows_none c.args.ledger.now.cells _

pub loop-i-preserved : goal.loop-i-preserved
loop-i-preserved c = laws.rows-one c.args.ledger.now.cells _ _ _ _ _ c.row_at.ensures c.loop-i.invariant c.row_line.ensures

pub returns : goal.returns
returns c = laws.rows_all _ _ _ c.loop-i.i (omega (arith, c.count_of-i-end.ensures, c.loop-i-test.false)) c.loop-i.invariant
