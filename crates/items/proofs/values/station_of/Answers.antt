use native.Mathlib.Nat.{div-one}
use Rattle.layouts.specs.Groups.{values}
use Rattle.items.proofs.values.station_of.Goals as goal

pub returns : goal.returns
unfolding values
returns c = simp div-one
