-- `item_walk`, which calls itself, and `record_walk`, which call each other. The measure is the octets left and the fields left.
use Rattle.std.proofs.Common.{◌+◌, ◌-◌, ◌*◌}
use Rattle.blocks.proofs.walk.+item_walk_record_walk.Given as goal

abbrev pub decreases-item_walk : goal.decreases-item_walk
decreases-item_walk l = (l.block.now.window.len - l.at) * 64 + (34 - l.field)

abbrev pub decreases-record_walk : goal.decreases-record_walk
decreases-record_walk l = (l.block.now.window.len - l.from.at) * 64
