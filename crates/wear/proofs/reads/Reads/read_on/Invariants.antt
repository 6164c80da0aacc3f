-- `read_on`: with each read that goes on an octet comes. Assumes nothing.
use Rattle.std.proofs.Common.{◌≡◌, ◌≤◌}
use Rattle.wear.specs.declared.reads.Going.{Going}
use Rattle.wear.proofs.reads.Reads.read_on.Given as goal

abbrev pub invariant-reads : goal.invariant-reads
invariant-reads l = (l.fn.self.octets ≤ l.self.octets) × (l.self.input ≡ Going.On → l.counter ≤ l.self.octets)
