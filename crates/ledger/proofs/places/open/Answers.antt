-- `open`: the numbers behind the place move by one row. Assumes nothing.
use native.Mathlib.Omega.{arith}
use Rattle.ledger.specs.Ledgers.{as_row}
use Rattle.ledger.proofs.ChangeLaws.{shifted, open_row}
use Rattle.ledger.proofs.places.open.Goals as goal

pub returns : goal.returns
returns c =
    let z = c.args in
    let by = c.copy_within.ensures.by_index in
    let s = shifted z.cells.now c.copy_within.new.self z.i (omega (arith, c.copy_within.ensures.len)) by.1 by.0 in
    rw c.put_row.ensures (open_row _ c.requires.0 z.i c.requires.1 c.requires.2 (as_row z.row) _ s)
