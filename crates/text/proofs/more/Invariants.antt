-- `more`: the numbers before this one are put. Assumes nothing.
use Rattle.std.proofs.Common.{◌≡◌, take}
use mathlib.Core.List.{flat_map}
use Rattle.text.specs.Digits.{blank_number}
use Rattle.text.specs.Gathered.{gathered, put_all}
use Rattle.text.proofs.more.Given as goal

abbrev pub invariant-loop-value : goal.invariant-loop-value
invariant-loop-value l = gathered l.text l.at ≡ put_all (gathered l.fn.text l.held) (flat_map blank_number (take l.value-index l.values))
