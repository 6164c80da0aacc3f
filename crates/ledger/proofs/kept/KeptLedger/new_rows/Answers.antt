use Rattle.ledger.proofs.PlaceLaws.{at_row, gap_none}
use Rattle.ledger.proofs.kept.KeptLedger.new_rows.Goals as goal

pub returns-in-Ok : goal.returns-in-Ok
returns-in-Ok c = rw (at_row _ c.args.self.now.kept _ _ c.in-Ok.ensures.row)

pub returns-in-Err : goal.returns-in-Err
returns-in-Err c = rw (gap_none _ _ _ c.in-Err.ensures.gap c.args.self.now.kept)
