-- `skipped_line`: what is put is the block's line, and finds room. Assumes nothing.
use Rattle.std.proofs.Common.{◌<◌, ◌^◌, ◌∙◌, refl, get_or, arith}
use Rattle.text.proofs.GatheredLaws.{put_then, put_two, put_new}
use Rattle.text.specs.Quotes.{quoted}
use Rattle.wear.specs.Tells.{number_in, place_in}
use Rattle.wear.proofs.TellLaws.{number_small, skipped_is, skipped_short}
use Rattle.wear.proofs.tells.skipped_line.Goals as goal

pub returns : goal.returns
unfolding quoted
returns c =
    let s = c.args.s.now in
    let offset = c.args.offset in
    let len = c.read.result in
    let fault = c.fault_of-fault.result in
    let refusal = number_in fault in
    let at = place_in fault in
    let small : offset < 2 ^ 64 = omega (arith, c.ranges.offset) in
    let cat : get_or s 0 0 < 2 ^ 64 = omega (arith, c.type_inv.s 0) in
    let few : len < 2 ^ 64 = omega (arith, c.read.type_inv) in
    let short = skipped_short offset (get_or s 0 0) len refusal at small cat few (number_small fault) in
    let said = c.fault_of-fault.ensures in
    let is = skipped_is offset (get_or s 0 0) len refusal at s refl c.read.ensures.0 said.0 said.1 in
    let numbers = put_two _ _ _ _ _ _ (put_two _ _ _ _ _ _ c.word_number.ensures c.word_number-2.ensures) c.word_number-3.ensures in
    let refused = put_then _ _ _ _ _ (put_then _ _ _ _ _ numbers c.emit_all.ensures) c.refused_words.ensures in
    let whole = put_new _ _ _ _ c.new-text.ensures short (put_then _ _ _ _ _ refused c.fault_words.ensures) in
    (whole.0 ∙ is, whole.1)
