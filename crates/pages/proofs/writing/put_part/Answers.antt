-- `put_part`, by the table. Assumes nothing.
use Rattle.ledger.specs.Ledgers.{as_row}
use Rattle.pages.proofs.PutSteps.{readings-laid}
use Rattle.pages.proofs.writing.put_part.Goals as goal

pub returns-in-Readings : goal.returns-in-Readings
returns-in-Readings c =
    readings-laid _ _ _ _ (as_row c.args.row) c.in-Readings.is c.requires _ c.write-in-Readings.ensures c.write-in-Readings-2.ensures
