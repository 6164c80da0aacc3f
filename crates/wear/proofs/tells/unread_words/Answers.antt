-- `unread_words`: what is put finds room. Assumes nothing.
use Rattle.std.proofs.Common.{◌<◌, ◌^◌, ◌∙◌, arith}
use Rattle.text.proofs.GatheredLaws.{put_then, put_new}
use Rattle.text.specs.Quotes.{quoted}
use Rattle.wear.specs.Tells.{unread_words}
use Rattle.wear.proofs.TellLaws.{unread-short}
use Rattle.wear.proofs.tells.unread_words.Goals as goal

pub returns : goal.returns
unfolding quoted unread_words
returns c =
    let n = c.behind.result in
    let small : n < 2 ^ 64 = omega (arith, c.behind.type_inv) in
    let short = unread-short n c.has_failed.result small in
    let put = put_then _ _ _ _ _ (put_then _ _ _ _ _ c.unread_first.ensures c.number.ensures) c.emit_all.ensures in
    let whole = put_new _ _ _ _ c.new-text.ensures short put in
    (whole.0 ∙ (λ i. unread_words (c.behind.ensures i) (c.has_failed.ensures i)), whole.1)
