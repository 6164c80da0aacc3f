-- `fault_words`: a record, by its offset in the feed. Assumes nothing.
use Rattle.std.proofs.Common.{◌≡◌, arith}
use Rattle.text.proofs.GatheredLaws.{put_one_lem, put_then}
use Rattle.text.specs.Quotes.{quoted}
use Rattle.wear.specs.Tells.{place_in}
use Rattle.wear.proofs.TellLaws.{record_put}
use Rattle.wear.proofs.tells.fault_words.Goals as goal

pub returns-else-at-eq0 : goal.returns-else-at-eq0
unfolding quoted
returns-else-at-eq0 c =
    let is : place_in c.args.fault ≡ c.map_or-at.result = grind arith in
    rw is (record_put _ _ _ _ _ c.if-at-eq0.false c.more.ensures (put_then _ _ _ _ _ c.word_number.ensures (put_one_lem _ _ _ c.emit.ensures)))
