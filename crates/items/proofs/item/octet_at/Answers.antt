use native.Mathlib.Omega.{arith}
use Rattle.layouts.specs.Groups.{values}
use Rattle.layouts.specs.Offsets.{trace_at}
use Rattle.layouts.specs.Layouts.{format}
use Rattle.items.proofs.Items.{one-octet}
use Rattle.items.proofs.item.octet_at.Goals as goal

pub returns : goal.returns
unfolding trace_at format values
returns c = omega (arith, one-octet c.args.s.now c.args.at c.octet.result c.octet.ensures.0)
