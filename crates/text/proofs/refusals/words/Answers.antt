-- `words`: 0 is accepted, and a number that no refusal has is 18 or more. Assumes nothing.
use Rattle.std.proofs.Common.{◌≡◌, ℕ, ◌≤◌, arith}
use lib.ListN.{get_or-eq_default}
use Rattle.octets.specs.Refusals.{number_of}
use Rattle.octets.specs.declared.refusal.Refusal.{Refusal}
use Rattle.octets.specs.declared.refusal.Refusal.TheVariants as refusal
use Rattle.text.specs.Quotes.{quoted}
use Rattle.text.specs.Sentences.{sentences, sentence}
use Rattle.text.proofs.refusals.words.Goals as goal

past : (n : ℕ) → (n ≡ 0 → ⊥) → ((r : Refusal) → number_of r ≡ n → ⊥) → 18 ≤ n
past n some none = omega (
  arith,
  none refusal.TooShort,
  none refusal.UnknownCategory,
  none refusal.LenTooSmall,
  none refusal.LongSpecification,
  none refusal.SpareMarked,
  none refusal.NoneMarked,
  none refusal.PassesEnd,
  none refusal.NoCount,
  none refusal.PastLast,
  none refusal.PresenceBroken,
  none refusal.OutOfRange,
  none refusal.OutputTooShort,
  none refusal.NotStatistics,
  none refusal.NoRoom,
  none refusal.LifePasses,
  none refusal.RulesBroken,
  none refusal.NoSuch,
)

pub returns-then-n-eq0 : goal.returns-then-n-eq0
unfolding sentence quoted
returns-then-n-eq0 c = rw c.if-n-eq0.true

pub returns-in-Err : goal.returns-in-Err
unfolding sentence quoted
returns-in-Err c =
    let h : 18 ≤ c.args.n = past c.args.n c.if-n-eq0.false c.in-Err.ensures.1 in
    rw (get_or-eq_default sentences "no refusal has this number" h)
