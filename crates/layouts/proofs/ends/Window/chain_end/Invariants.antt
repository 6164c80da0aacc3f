-- The loop's invariant: from p the chain ends where it ends from the first part. Assumes nothing.
use mathlib.Core.Path.{◌≡◌}
use Prim.Native.Nat.{◌-◌, ◌≤◌}
use Rattle.octets.specs.Refusals.{number_of}
use Rattle.layouts.specs.Ends.{chain_end}
use Rattle.layouts.proofs.ends.Window.chain_end.Given as goal

abbrev pub invariant-loop : goal.invariant-loop
invariant-loop l =
    (l.p ≤ l.self.len)
    × (chain_end l.self.octets.now l.self.len (number_of l.past) l.size l.more l.at
    ≡ chain_end l.self.octets.now l.self.len (number_of l.past) l.n (l.more - l.counter) l.p)
