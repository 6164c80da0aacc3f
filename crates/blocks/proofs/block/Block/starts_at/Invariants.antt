-- `starts_at`. The loop's invariant: the fields before `from` are done. The measure is what is left of the fields. Assumes nothing.
use Prim.Native.Nat.{◌-◌, ◌≤◌}
use Rattle.layouts.specs.Categories.{category}
use Rattle.blocks.proofs.RecordStarts.{Filled}
use Rattle.blocks.proofs.block.Block.starts_at.Given as goal

abbrev pub invariant-loop-f : goal.invariant-loop-f
invariant-loop-f l = Filled l.self.window.octets.now l.self.window.len (category l.self.cat) l.marks l.first l.items l.p l.from × (l.from ≤ 33)

abbrev pub decreases-loop-f : goal.decreases-loop-f
decreases-loop-f l = 33 - l.from
