-- `time_fits`: the bits hold what was read, so only the range is tested. Assumes nothing.
use mathlib.Core.Path.{sym, ◌∙◌}
use mathlib.Core.Bool.{and-true}
use lib.Dec.{leb-zero}
use Rattle.octets.specs.Numbers.{number}
use Rattle.layouts.specs.Groups.{values}
use Rattle.layouts.specs.Offsets.{trace_at}
use Rattle.layouts.specs.Layouts.{format}
use Rattle.layouts.specs.Tables.{time}
use Rattle.items.proofs.Entries.{fits-ranged}
use Rattle.items.proofs.item.time_fits.Goals as goal

pub returns : goal.returns
unfolding trace_at format values
returns c =
    let a = c.args in
    rw c.time_at.ensures (sym (fits-ranged time.parts (number 3 a.s.now a.at) ∙ simp (leb-zero, and-true)))
