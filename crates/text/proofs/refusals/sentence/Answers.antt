-- `sentence`: in each arm the octets of the sentence that the definition has there. Assumes nothing.
use Rattle.text.specs.Quotes.{quoted}
use Rattle.text.specs.Sentences.{sentence}
use Rattle.text.proofs.refusals.sentence.Goals as goal

pub returns-in-TooShort : goal.returns-in-TooShort
unfolding sentence quoted
returns-in-TooShort c = rw c.in-TooShort.is

pub returns-in-UnknownCategory : goal.returns-in-UnknownCategory
unfolding sentence quoted
returns-in-UnknownCategory c = rw c.in-UnknownCategory.is

pub returns-in-LenTooSmall : goal.returns-in-LenTooSmall
unfolding sentence quoted
returns-in-LenTooSmall c = rw c.in-LenTooSmall.is

pub returns-in-LongSpecification : goal.returns-in-LongSpecification
unfolding sentence quoted
returns-in-LongSpecification c = rw c.in-LongSpecification.is

pub returns-in-SpareMarked : goal.returns-in-SpareMarked
unfolding sentence quoted
returns-in-SpareMarked c = rw c.in-SpareMarked.is

pub returns-in-NoneMarked : goal.returns-in-NoneMarked
unfolding sentence quoted
returns-in-NoneMarked c = rw c.in-NoneMarked.is

pub returns-in-PassesEnd : goal.returns-in-PassesEnd
unfolding sentence quoted
returns-in-PassesEnd c = rw c.in-PassesEnd.is

pub returns-in-NoCount : goal.returns-in-NoCount
unfolding sentence quoted
returns-in-NoCount c = rw c.in-NoCount.is

pub returns-in-PastLast : goal.returns-in-PastLast
unfolding sentence quoted
returns-in-PastLast c = rw c.in-PastLast.is

pub returns-in-PresenceBroken : goal.returns-in-PresenceBroken
unfolding sentence quoted
returns-in-PresenceBroken c = rw c.in-PresenceBroken.is

pub returns-in-OutOfRange : goal.returns-in-OutOfRange
unfolding sentence quoted
returns-in-OutOfRange c = rw c.in-OutOfRange.is

pub returns-in-OutputTooShort : goal.returns-in-OutputTooShort
unfolding sentence quoted
returns-in-OutputTooShort c = rw c.in-OutputTooShort.is

pub returns-in-NotStatistics : goal.returns-in-NotStatistics
unfolding sentence quoted
returns-in-NotStatistics c = rw c.in-NotStatistics.is

pub returns-in-NoRoom : goal.returns-in-NoRoom
unfolding sentence quoted
returns-in-NoRoom c = rw c.in-NoRoom.is

pub returns-in-LifePasses : goal.returns-in-LifePasses
unfolding sentence quoted
returns-in-LifePasses c = rw c.in-LifePasses.is

pub returns-in-RulesBroken : goal.returns-in-RulesBroken
unfolding sentence quoted
returns-in-RulesBroken c = rw c.in-RulesBroken.is

pub returns-in-NoSuch : goal.returns-in-NoSuch
unfolding sentence quoted
returns-in-NoSuch c = rw c.in-NoSuch.is
