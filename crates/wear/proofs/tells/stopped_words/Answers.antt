-- `stopped_words`: what is put is said of what waits, and finds room. Assumes nothing.
use Rattle.std.proofs.Common.{◌<◌, ◌^◌, ◌-◌, ◌∙◌, take, drop, arith}
use Rattle.text.proofs.GatheredLaws.{put_then, put_new}
use Rattle.text.specs.Quotes.{quoted}
use Rattle.wear.specs.Tells.{number_in}
use Rattle.wear.proofs.TellLaws.{between, number_small, stopped-is, stopped-short, stop-told}
use Rattle.wear.proofs.tells.stopped_words.Goals as goal

pub returns : goal.returns
unfolding quoted
returns c =
    let last = c.args.last in
    let s = take (last.to - last.from) (drop last.from c.args.buffer.now) in
    let left = c.requires.1 in
    let refusal = number_in c.fault_of-fault.result in
    let small : last.used < 2 ^ 64 = omega (arith, c.well_formed) in
    let short = stopped-short last.used refusal small (number_small c.fault_of-fault.result) in
    let put = put_then _ _ _ _ _ (put_then _ _ _ _ _ c.word_number.ensures c.emit_all.ensures) c.refused_words.ensures in
    let whole = put_new _ _ _ _ c.new-text.ensures short put in (
      stop-told _ c.args.buffer.now last left s _ (between c.args.buffer.now last.from last.to left.order left.within)
          (whole.0 ∙ stopped-is last.used refusal s c.fault_of-fault.ensures.0),
      whole.1,
    )
