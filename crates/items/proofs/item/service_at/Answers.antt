use mathlib.Core.Path.{◌∙◌, ap}
use mathlib.Core.List.{[], ◌∷◌}
use Prim.Native.Nat.{ℕ}
use Rattle.layouts.specs.Groups.{values}
use Rattle.layouts.specs.Offsets.{trace_at}
use Rattle.layouts.specs.Layouts.{format}
use Rattle.layouts.specs.Tables.{service}
use Rattle.items.specs.Typed.{service_of}
use Rattle.items.proofs.Items.{one-octet}
use Rattle.items.proofs.item.service_at.Goals as goal

pub returns : goal.returns
unfolding trace_at format
returns c = c.service_of.ensures ∙ ap (λ (x : ℕ). service_of (values service.parts x ∷ [])) (one-octet _ _ _ c.octet.ensures.0)
