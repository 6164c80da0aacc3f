-- `spelled`: the loop has the number of the octets passed. Assumes nothing.
use Rattle.std.proofs.Common.{◌≡◌, ◌<◌, ◌^◌}
use Rattle.octets.specs.Numbers.{number}
use Rattle.octets.proofs.spelled.Given as goal

abbrev pub invariant-loop-i : goal.invariant-loop-i
invariant-loop-i l = (l.v ≡ number l.i l.s l.at) × (l.v < 256 ^ l.i)
