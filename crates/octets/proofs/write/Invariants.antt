use Rattle.std.proofs.Common.{◌≡◌}
use Rattle.octets.specs.Numbers.{octets, laid}
use Rattle.octets.proofs.write.Given as goal

abbrev pub invariant-loop-i : goal.invariant-loop-i
invariant-loop-i l = laid l.fn.out l.at (octets l.k l.v) ≡ laid l.out l.at (octets l.i l.w)
