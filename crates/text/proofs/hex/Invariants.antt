-- `hex`: the digits of the octets before this one are put. Assumes nothing.
use Rattle.std.proofs.Common.{◌≡◌, take}
use mathlib.Core.List.{flat_map}
use Rattle.text.specs.Digits.{hex_pair}
use Rattle.text.specs.Gathered.{gathered, put_all}
use Rattle.text.proofs.hex.Given as goal

abbrev pub invariant-loop-octet : goal.invariant-loop-octet
invariant-loop-octet l = gathered l.text l.at ≡ put_all (gathered l.fn.text l.held) (flat_map hex_pair (take l.octet-index l.octets))
