-- `totals_line`: four words with their numbers. Assumes nothing.
use Rattle.text.proofs.GatheredLaws.{put_one_lem, put_then, put_two}
use Rattle.text.specs.Quotes.{quoted}
use Rattle.wear.proofs.sheet.totals_line.Goals as goal

pub returns : goal.returns
unfolding quoted
returns c =
    let two = put_two _ _ _ _ _ _ c.word_number.ensures c.word_number-2.ensures in
    let four = put_two _ _ _ _ _ _ (put_two _ _ _ _ _ _ two c.word_number-3.ensures) c.word_number-4.ensures in
    put_then _ _ _ _ _ four (put_one_lem _ _ _ c.emit.ensures)
