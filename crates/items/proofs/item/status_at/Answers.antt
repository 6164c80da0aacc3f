use Rattle.layouts.specs.Groups.{values}
use Rattle.layouts.specs.Offsets.{trace_at}
use Rattle.layouts.specs.Layouts.{chain, format}
use Rattle.items.proofs.Items.{one-octet}
use Rattle.items.proofs.item.status_at.Goals as goal

pub returns : goal.returns
unfolding trace_at format chain values
returns c = rw (one-octet c.args.s.now c.args.at _ c.octet.ensures.0)
