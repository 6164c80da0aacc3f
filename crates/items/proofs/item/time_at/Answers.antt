use native.Mathlib.Nat.{div-one, mod-eq_of_lt}
use Rattle.octets.proofs.Numbers.{number_lt}
use Rattle.layouts.specs.Groups.{values}
use Rattle.layouts.specs.Offsets.{trace_at}
use Rattle.layouts.specs.Layouts.{format}
use Rattle.items.proofs.item.time_at.Goals as goal

pub returns : goal.returns
unfolding trace_at format values
returns c =
    let a = c.args in
    rw (c.read.ensures.0, div-one, mod-eq_of_lt (number_lt 3 a.s.now a.at (λ j. (c.type_inv.s j).fits)))
