use mathlib.Core.Path.{◌∙◌, ap}
use mathlib.Core.List.{[], ◌∷◌}
use Prim.Native.Nat.{ℕ}
use Rattle.layouts.specs.Groups.{values}
use Rattle.layouts.specs.Offsets.{trace_at}
use Rattle.layouts.specs.Layouts.{format}
use Rattle.layouts.specs.Tables.{sdps}
use Rattle.items.specs.Typed.{sdps_of}
use Rattle.items.proofs.Items.{one-octet}
use Rattle.items.proofs.item.sdps_at.Goals as goal

pub returns : goal.returns
unfolding trace_at format
returns c = c.sdps_of.ensures ∙ ap (λ (x : ℕ). sdps_of (values sdps.parts x ∷ [])) (one-octet _ _ _ c.octet.ensures.0)
