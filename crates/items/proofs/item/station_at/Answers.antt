use mathlib.Core.Path.{◌∙◌}
use Rattle.items.proofs.Items.{station-read}
use Rattle.items.proofs.item.station_at.Goals as goal

pub returns : goal.returns
returns c =
    let a = c.args in
    c.station_of.ensures ∙ rw (c.extension_at.ensures, c.read-first.ensures.0, c.first_octets.ensures) (station-read a.s.now a.at)
