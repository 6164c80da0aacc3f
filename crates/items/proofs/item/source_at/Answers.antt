use mathlib.Core.Path.{◌∙◌}
use Rattle.layouts.specs.Offsets.{trace_at}
use Rattle.layouts.specs.Layouts.{format}
use Rattle.items.proofs.item.source_at.Goals as goal

pub returns : goal.returns
unfolding trace_at format
returns c = c.source_of.ensures ∙ rw c.read.ensures.0
