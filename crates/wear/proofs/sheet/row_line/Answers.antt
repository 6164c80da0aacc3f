-- `row_line`: the key's four octets in hex, and the two numbers, with what stands between them. Assumes nothing.
use Rattle.text.proofs.GatheredLaws.{put_one_lem, put_then}
use Rattle.text.specs.Quotes.{quoted}
use Rattle.wear.proofs.SheetLaws.{key-put}
use Rattle.wear.proofs.sheet.row_line.Goals as goal

pub returns : goal.returns
unfolding quoted
returns c =
    let key = key-put _ _ _ _ c.write.ensures c.hex.ensures in
    let to-life = put_then _ _ _ _ _ (put_then _ _ _ _ _ key (put_one_lem _ _ _ c.emit.ensures)) c.number.ensures in
    let to-reading = put_then _ _ _ _ _ (put_then _ _ _ _ _ to-life (put_one_lem _ _ _ c.emit-2.ensures)) c.number-2.ensures in
    put_then _ _ _ _ _ to-reading (put_one_lem _ _ _ c.emit-3.ensures)
