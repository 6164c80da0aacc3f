-- `sheet`: header, rows and totals, of the ledger and the totals of a whole feed. Assumes nothing.
use Rattle.std.proofs.Common.{arith}
use Rattle.feed.proofs.CountedRuns.{Fits}
use Rattle.text.proofs.GatheredLaws.{put_then, put_new}
use Rattle.text.specs.Quotes.{quoted}
use Rattle.wear.proofs.SheetLaws.{sheet_short, worn_printed}
use Rattle.wear.specs.Sheets.{sheet_of}
use Rattle.wear.proofs.sheet.sheet.Goals as goal

pub returns : goal.returns
unfolding quoted sheet_of
returns c =
    let totals = c.args.last.totals in
    -- the totals have 64 bits
    let counted : Fits totals = record { accepted = omega arith; refused = omega arith; posted = omega arith; unposted = omega arith } in
    let short = sheet_short c.args.ledger.now.cells c.args.ledger.now.kept totals counted in
    let put = put_then _ _ _ _ _ (put_then _ _ _ _ _ c.emit_all.ensures c.row_lines.ensures) c.totals_line.ensures in
    let whole = put_new _ _ _ _ c.new-text.ensures short put in
    (worn_printed _ _ _ c.requires.1 _ whole.0, whole.1)
