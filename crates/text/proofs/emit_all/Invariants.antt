-- `emit_all`: the octets before this one are put. Assumes nothing.
use Rattle.std.proofs.Common.{◌≡◌, take}
use Rattle.text.specs.Gathered.{gathered, put_all}
use Rattle.text.proofs.emit_all.Given as goal

abbrev pub invariant-loop-octet : goal.invariant-loop-octet
invariant-loop-octet l = gathered l.text l.at ≡ put_all (gathered l.fn.text l.held) (take l.octet-index l.octets)
