-- `read`: the octets that lie in the slice, and then zeros. Assumes nothing.
use Rattle.std.proofs.Common.{◌≡◌, ◌<◌, ◌^◌}
use Rattle.octets.specs.Numbers.{number}
use Rattle.octets.proofs.read.Given as goal

abbrev pub invariant-loop : goal.invariant-loop
invariant-loop l = (l.v ≡ number l.counter l.s l.at) × (l.v < 256 ^ l.counter)
