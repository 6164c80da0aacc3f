use mathlib.Core.Path.{refl}
use Rattle.layouts.specs.Groups.{values}
use Rattle.items.proofs.values.sdps_of.Goals as goal

pub returns : goal.returns
unfolding values
returns c = refl
